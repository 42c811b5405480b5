-- The whole answer of reading against a register, and what it leaves in the lent rows and in the lent register. Request W-207. Assumes nothing.
use Rattle.std.specs.Prelude.{ℕ, ◌/◌, List, ltb, length, Option, Some, None}
use Rattle.base.specs.Pick.{pick}
use Rattle.sheet.specs.declared.Sheet.{Sheet}
use Rattle.sheet.specs.Sheets.{sheet_of}
use Rattle.paper.specs.Days.{real_day}
use Rattle.paper.specs.Batch.{Batch}
use Rattle.paper.specs.Judge.{Answer, Refused, Accepted, seen}
use Rattle.paper.specs.Rows.{row_size}
use Rattle.paper.specs.Reading.{ReadAnswer, refused_at, row_count, answered, filled}
use Rattle.register.specs.Marks.{with}
use Rattle.register.specs.Register.{Register, malformed, of, register_of, laid_in}
use Rattle.against.specs.Against.{judge_on}

-- ---- the answer: first 1 and 2, then the file, last 16

unfoldable pub registered_with : Option Sheet → ℕ → List ℕ → ℕ → Register → ReadAnswer
registered_with (Some sh) today f room reg = pick (real_day today) (answered room (judge_on reg sh today f)) (refused_at 2 0 0)
registered_with None today f room reg = refused_at 1 0 0

unfoldable pub registered_answer : ℕ → ℕ → List ℕ → List ℕ → List ℕ → ReadAnswer
registered_answer sheet today f lent register = registered_with (sheet_of sheet) today f (length lent / row_size) (register_of register)

-- ---- the lent rows afterwards, as reading leaves them

unfoldable pub registered_rows_with : Option Sheet → ℕ → List ℕ → List ℕ → Register → List ℕ
registered_rows_with (Some sh) today f lent reg = pick (real_day today) (filled sh today f lent (judge_on reg sh today f)) lent
registered_rows_with None today f lent reg = lent

unfoldable pub registered_rows : ℕ → ℕ → List ℕ → List ℕ → List ℕ → List ℕ
registered_rows sheet today f lent register = registered_rows_with (sheet_of sheet) today f lent (register_of register)

-- ---- the lent register afterwards: of an accepted file that has room for its rows, the first three digits of its numbers are marked besides

unfoldable pub marking : List ℕ → Register → Batch → List ℕ
marking register malformed b = register
marking register (of date p) b = laid_in register date (with (seen b) p)

unfoldable pub marked : ℕ → List ℕ → Register → Answer → List ℕ
marked room register reg (Refused n l p) = register
marked room register reg (Accepted h b w) = pick (ltb room (row_count b)) register (marking register reg b)

-- other sheets, 1 and 2 leave it alone
unfoldable pub register_with : Option Sheet → ℕ → List ℕ → ℕ → List ℕ → List ℕ
register_with (Some sh) today f room register =
    pick (real_day today) (pick sh.interval (marked room register (register_of register) (judge_on (register_of register) sh today f)) register) register
register_with None today f room register = register

unfoldable pub register_after : ℕ → ℕ → List ℕ → List ℕ → List ℕ → List ℕ
register_after sheet today f lent register = register_with (sheet_of sheet) today f (length lent / row_size) register
