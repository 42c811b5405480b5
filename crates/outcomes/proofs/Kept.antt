-- A refusal leaves the lent bytes as they were, whatever the sheet's number and the day. Assumes nothing.
use Rattle.std.proofs.Common.{Option, Some, None}
use mathlib.Core.Path.{◌≡◌, refl}
use mathlib.Core.List.{List}
use Prim.Native.Nat.{ℕ, ◌/◌}
use lib.Dec.{ltb}
use lib.ListN.{length}
use Rattle.base.specs.Pick.{pick}
use Rattle.base.proofs.Cases.{by-test}
use Rattle.sheet.specs.Sheets.{sheet_of}
use Rattle.paper.specs.Days.{real_day}
use Rattle.paper.specs.Judge.{Answer, Refused, Accepted, judge}
use Rattle.paper.specs.Rows.{row_size}
use Rattle.paper.specs.Reading.{accepted_as, row_count, answered, read_with, read_answer, filled, rows_with, rows_after}
use Rattle.paper.specs.Writing.{Draft, drafted, refusal, written_in, output_after}
use Rattle.sheet.specs.declared.Sheet.{Sheet}

-- ---- reading

judged-kept : (sh : Sheet) (today : ℕ) (f lent : List ℕ) (a : Answer)
    → ((answered (length lent / row_size) a).number ≡ 0 → ⊥) → filled sh today f lent a ≡ lent
unfolding answered filled accepted_as pick
judged-kept sh today f lent (Refused n l p) bad = refl
judged-kept sh today f lent (Accepted h b w) bad =
    by-test (ltb (length lent / row_size) (row_count b)) (λ e. rw e refl) (λ e. absurd (bad (rw e refl)))

known_kept : (k : Option Sheet) (today : ℕ) (f lent : List ℕ)
    → ((read_with k today f (length lent / row_size)).number ≡ 0 → ⊥) → rows_with k today f lent ≡ lent
unfolding read_with rows_with pick
known_kept None today f lent bad = refl
known_kept (Some sh) today f lent bad =
    by-test (real_day today) (λ e. rw e (judged-kept sh today f lent (judge sh today f) (rw e at bad))) (λ e. rw e refl)

pub rows-kept : (sheet today : ℕ) (f lent : List ℕ) → ((read_answer sheet today f lent).number ≡ 0 → ⊥) → rows_after sheet today f lent ≡ lent
unfolding read_answer rows_after
rows-kept sheet today f lent bad = known_kept (sheet_of sheet) today f lent bad

-- ---- writing, and explaining

pub output-kept : (d : Draft) (out : List ℕ) → ((written_in (length out) d).number ≡ 0 → ⊥) → output_after out d ≡ out
unfolding written_in output_after pick
output-kept (refusal n row field) out bad = refl
output-kept (drafted s) out bad = by-test (ltb (length out) (length s)) (λ e. rw e refl) (λ e. absurd (bad (rw e refl)))
