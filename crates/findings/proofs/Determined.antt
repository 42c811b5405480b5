-- An answer of listing is known by what it tells, and a refusal leaves the lent bytes as they were. Assumes nothing.
use Rattle.std.proofs.Common.{Option, Some, None}
use mathlib.Core.Path.{◌≡◌, refl, ap}
use mathlib.Core.List.{List}
use Prim.Native.Nat.{ℕ, ◌/◌}
use lib.Dec.{ltb}
use lib.ListN.{length}
use Rattle.base.specs.Pick.{pick}
use Rattle.base.proofs.Cases.{by-test}
use Rattle.sheet.specs.declared.Sheet.{Sheet}
use Rattle.sheet.specs.Sheets.{sheet_of}
use Rattle.paper.specs.Days.{real_day}
use Rattle.findings.specs.declared.AboList.{AboList}
use Rattle.findings.specs.Findings.{findings}
use Rattle.findings.specs.Lists.{ListAnswer, no_list, needs_room, list_in, filled_in, list_with, filled_with, list_answer, list_after}
use Rattle.findings.specs.Told.{told}

-- the answer that tells this
abbrev answer_for : ListAnswer → AboList
answer_for r = record { number = r.number; refused = r.refused; count = r.count; needed = r.needed; sheets = r.sheets }

-- two answers that tell the same are the same
pub told-one : (a b : AboList) → told a ≡ told b → a ≡ b
told-one a b e = ap answer_for e

-- ---- a refusal

kept-in : (sh : Sheet) (today : ℕ) (f lent : List ℕ) → ((list_in (length lent / 64) sh today f).number ≡ 0 → ⊥) → filled_in lent sh today f ≡ lent
unfolding list_in filled_in needs_room pick
kept-in sh today f lent some =
    by-test (ltb (length lent / 64) (length (findings sh today f))) (λ e. rw e) (λ e. absurd (some (rw e)))

kept-with : (k : Option Sheet) (today : ℕ) (f lent : List ℕ) → ((list_with k today f (length lent / 64)).number ≡ 0 → ⊥) → filled_with k today f lent ≡ lent
unfolding list_with filled_with no_list pick
kept-with None today f lent some = refl
kept-with (Some sh) today f lent some =
    by-test (real_day today) (λ e. rw e (kept-in sh today f lent (rw e at some))) (λ e. rw e)

pub lent-kept : (sheet today : ℕ) (f lent : List ℕ) → ((list_answer sheet today f lent).number ≡ 0 → ⊥) → list_after sheet today f lent ≡ lent
unfolding list_answer list_after
lent-kept sheet today f lent some = kept-with (sheet_of sheet) today f lent some
