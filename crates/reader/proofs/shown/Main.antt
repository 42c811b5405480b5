-- Every refusal of a file names a place in the line that `abo_line` answers for its line number. Assumes nothing.
use Rattle.std.proofs.Common.{Option, Some, None}
use mathlib.Core.Path.{◌≡◌, refl}
use mathlib.Core.List.{List}
use Prim.Native.Nat.{ℕ, ◌/◌}
use native.Mathlib.Omega.{arith}
use lib.Dec.{ltb}
use lib.ListN.{length}
use Rattle.base.specs.Pick.{pick}
use Rattle.base.proofs.Cases.{by-test}
use Rattle.sheet.specs.declared.Sheet.{Sheet}
use Rattle.sheet.specs.Sheets.{sheet_of}
use Rattle.paper.specs.Days.{real_day}
use Rattle.paper.specs.Judge.{Answer, Refused, Accepted, judge}
use Rattle.paper.specs.Rows.{row_size}
use Rattle.paper.specs.Reading.{ReadAnswer, refused_at, needs, accepted_as, row_count, answered, read_with, read_answer}
use Rattle.exact.proofs.faults.Main.{refused}
use Rattle.exact.specs.named.Numbers.{Judged}
use Rattle.reader.specs.Named.{places, line_answer}
use Rattle.reader.specs.shown.Holding.{Holds}
use Rattle.reader.proofs.shown.Numbers.{rev-append}
use Rattle.reader.proofs.shown.Lines.{lawful-kept, broken-placed}

pub judge-shown : (sh : Sheet) (today : ℕ) (f : List ℕ) (n l p : ℕ) → judge sh today f ≡ Refused n l p → Holds (line_answer l f) p
unfolding line_answer places
judge-shown sh today f n l p e =
    let o = (refused sh today f n l p).0 e in
    rw (o.split, rev-append o.before o.after _) (broken-placed sh today (length f) o.before (lawful-kept sh today o.lawful) o.broken)

-- ---- the answer of reading

-- of a file: its place can be shown
abbrev Shown : List ℕ → ReadAnswer → Type 0
Shown f a = Judged a.number → Holds (line_answer a.line f) a.byte

answer-shown : (sh : Sheet) (today : ℕ) (f : List ℕ) (room : ℕ) (a : Answer) → judge sh today f ≡ a → Shown f (answered room a)
unfolding answered refused_at needs accepted_as pick
answer-shown sh today f room (Refused n l p) e = λ j. judge-shown sh today f n l p e
answer-shown sh today f room (Accepted h b w) e =
    by-test (ltb room (row_count b)) (λ t. rw t (λ j. absurd (omega (arith, j.1)))) (λ t. rw t (λ j. absurd (omega (arith, j.0))))

known-shown : (k : Option Sheet) (today : ℕ) (f : List ℕ) (room : ℕ) → Shown f (read_with k today f room)
unfolding read_with refused_at pick
known-shown None today f room = λ j. absurd (omega (arith, j.0))
known-shown (Some sh) today f room =
    by-test (real_day today) (λ t. rw t (answer-shown sh today f room (judge sh today f) refl)) (λ t. rw t (λ j. absurd (omega (arith, j.0))))

-- what `abo_read` answers with 3 to 15, `abo_line` can show
pub read-shown : (sheet today : ℕ) (f lent : List ℕ)
    → Judged (read_answer sheet today f lent).number → Holds (line_answer (read_answer sheet today f lent).line f) (read_answer sheet today f lent).byte
unfolding read_answer
read-shown sheet today f lent = known-shown (sheet_of sheet) today f (length lent / row_size)
