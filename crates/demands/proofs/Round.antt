-- What the contracts of writing and reading say of one call of each, the second on what the first wrote. Assumes nothing.
use mathlib.Core.Path.{◌≡◌, refl, sym, ap, ◌∙◌}
use mathlib.Core.List.{List}
use Prim.Native.Nat.{ℕ, ◌≤◌, ◌<◌}
use native.Mathlib.Omega.{arith}
use lib.ListN.{length, take}
use lib.Seq.{length-take-le}
use Rattle.paper.specs.Batch.{Header}
use Rattle.paper.specs.Reading.{read_answer, rows_after}
use Rattle.paper.specs.Writing.{Draft, draft, WriteAnswer, written_in, output_after}
use Rattle.outcomes.specs.Outcomes.{ComesBack}
use Rattle.outcomes.proofs.Back.{written-inside, comes_back}
use Rattle.read.specs.declared.AboAnswer.{AboAnswer}
use Rattle.read.specs.Told.{told as told_read}
use Rattle.write.specs.declared.AboWritten.{AboWritten}
use Rattle.write.specs.Told.{told as told_written}
use Rattle.gpc.specs.Answers.{statement_answer, statement_rows, statement_draft}
use Rattle.gpcwhole.specs.Outcomes.{ComesBack as StatementsComeBack}
use Rattle.gpcwhole.proofs.Back.{comes_back as statements-back}
use Rattle.statement.specs.declared.reading.AboStatement.{AboStatement}
use Rattle.statement.specs.reading.Told.{told as told_statement}

-- the first n bytes are n, where there are as many
pub front-counted : (n : ℕ) (o : List ℕ) → n ≤ length o → n ≡ length (take n o)
front-counted n o l = sym (length-take-le n o l)

-- the bytes that writing counts lie in the output o that it leaves
pub inside : (d : Draft) (out o : List ℕ) (w : AboWritten) → told_written w ≡ written_in (length out) d → o ≡ output_after out d → w.number ≡ 0
    → w.bytes ≤ length o
inside d out o w e x z =
    rw (x, ap (λ (a : WriteAnswer). a.bytes) e)
    (written-inside out d (ap (λ (a : WriteAnswer). a.number) (sym e) ∙ z))

-- and come back: reading them has the answer a and leaves `left` in the lent bytes
pub returned : (sheet today : ℕ) (h : Header) (rows texts out lent o left : List ℕ) (w : AboWritten) (a : AboAnswer)
    → told_written w ≡ written_in (length out) (draft sheet today h rows texts)
    → o ≡ output_after out (draft sheet today h rows texts)
    → told_read a ≡ read_answer sheet today (take w.bytes o) lent
    → left ≡ rows_after sheet today (take w.bytes o) lent
    → length o < 18446744073709551616
    → w.number ≡ 0
    → ComesBack sheet today h rows texts (take w.bytes o) lent (told_read a) left
returned sheet today h rows texts out lent o left w a e x p q small z =
    let d = draft sheet today h rows texts in
    let n : w.bytes ≡ (written_in (length out) d).bytes = ap (λ (r : WriteAnswer). r.bytes) e in
    let zero : (written_in (length out) d).number ≡ 0 = ap (λ (r : WriteAnswer). r.number) (sym e) ∙ z in
    let long = length-take-le (written_in (length out) d).bytes (output_after out d) (written-inside out d zero) in
    rw (p, q, x, n) (comes_back sheet today h rows texts out lent d refl zero (omega (arith, long, written-inside out d zero, rw x at small)))

-- ---- statements

pub statements-returned : (rows out lent o left : List ℕ) (w : AboWritten) (a : AboStatement)
    → told_written w ≡ written_in (length out) (statement_draft rows)
    → o ≡ output_after out (statement_draft rows)
    → told_statement a ≡ statement_answer (take w.bytes o) lent
    → left ≡ statement_rows (take w.bytes o) lent
    → w.number ≡ 0
    → StatementsComeBack rows (take w.bytes o) lent (told_statement a) left
statements-returned rows out lent o left w a e x p q z =
    let n : w.bytes ≡ (written_in (length out) (statement_draft rows)).bytes = ap (λ (r : WriteAnswer). r.bytes) e in
    let zero : (written_in (length out) (statement_draft rows)).number ≡ 0 = ap (λ (r : WriteAnswer). r.number) (sym e) ∙ z in
    rw (p, q, x, n) (statements-back rows out lent zero)
