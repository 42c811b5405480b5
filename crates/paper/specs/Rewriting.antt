-- The rewriting program: what it writes for what it reads. Document 01, "A whole run". Assumes nothing.
use Rattle.std.specs.Prelude.{ℕ, List, [], ◌∷◌, eqb, ltb, length, Option, Some, None}
use Rattle.base.specs.Pick.{pick}
use Rattle.sheet.specs.declared.Sheet.{Sheet}
use Rattle.sheet.specs.Sheets.{sheet_by}
use Rattle.paper.specs.Read.{Field, value, fault}
use Rattle.paper.specs.Days.{short_day}
use Rattle.paper.specs.Judge.{Answer, Refused, Accepted, judge}
use Rattle.paper.specs.Canonical.{canon}
use Rattle.paper.specs.Explaining.{refused_line}

-- the input's first line without its end; it ends as a file's lines do
unfoldable pub first_line : List ℕ → List ℕ
first_line [] = []
first_line (b ∷ s) = pick (eqb b 10) [] (pick (eqb b 13) [] (b ∷ first_line s))

-- behind the LF of a CR LF
unfoldable pub past_lf : List ℕ → List ℕ
past_lf [] = []
past_lf (b ∷ s) = pick (eqb b 10) s (b ∷ s)

-- what stands behind the first line's end
unfoldable pub behind_first : List ℕ → List ℕ
behind_first [] = []
behind_first (b ∷ s) = pick (eqb b 10) s (pick (eqb b 13) (past_lf s) (behind_first s))

-- what is read is rewritten
unfoldable pub rewritten : Sheet → Answer → List ℕ
rewritten sh (Accepted h b w) = canon sh h b
rewritten sh (Refused n l p) = refused_line n l p

-- 16 for an input of more than 8 KiB, that line included; then the file
unfoldable pub on_day : Sheet → List ℕ → Field ℕ → List ℕ
on_day sh input (value today) = pick (ltb 8192 (length input)) (refused_line 16 0 0) (rewritten sh (judge sh today (behind_first input)))
on_day sh input (fault n) = refused_line 2 0 0

-- 2 where a space and a real day DDMMRR do not make up the rest of that line
unfoldable pub day_field : List ℕ → Field ℕ
day_field [] = fault 2
day_field (x ∷ s) = pick (eqb x 32) (short_day s) (fault 2)

-- 1 where the letter names no sheet
unfoldable pub on_sheet : Option Sheet → List ℕ → List ℕ → List ℕ
on_sheet (Some sh) rest input = on_day sh input (day_field rest)
on_sheet None rest input = refused_line 1 0 0

-- the first byte is the sheet's letter, else 1; so it is for no input at all
unfoldable pub on_letter : List ℕ → List ℕ → List ℕ
on_letter [] input = refused_line 1 0 0
on_letter (letter ∷ rest) input = on_sheet (sheet_by letter) rest input

-- the whole output for the whole input
unfoldable pub rewriting : List ℕ → List ℕ
rewriting input = on_letter (first_line input) input
