-- The words of a row as the fields of a head or a movement, and its kind: rules for a search. Assumes nothing.
use mathlib.Core.Path.{◌≡◌, refl, ap, ◌∙◌}
use mathlib.Core.List.{List}
use Prim.Native.Nat.{ℕ}
use native.Mathlib.Omega.{arith}
use lib.ListN.{length}
use borrow.Author.Tests.{ne_eqb, le-ltb}
use lib.Dec.{eqb}
use Rattle.std.specs.Prelude.{Result}
use Rattle.refusal.specs.declared.Flaw.{Flaw}
use Rattle.base.specs.Pick.{pick}
use Rattle.base.proofs.Cases.{pick-false}
use Rattle.paper.specs.Accounts.{account}
use Rattle.out.specs.word.Places.{word_here}
use Rattle.gpc.specs.Signed.{Signed as Number, word_signed}
use Rattle.gpc.specs.Records.{a_head, a_movement, strange, head_is, movement_is, no_record}
use Rattle.gpc.specs.StatementRows.{statement_row, head_in, movement_in, thing_in, head_tested, movement_tested, tested}
use Rattle.record.specs.declared.HeadFields.{HeadFields}
use Rattle.record.specs.declared.MovementFields.{MovementFields}
use Rattle.record.specs.Told.{Kept, in_row, movement_of, told_head, told_movement}

-- ---- `read_head`

module _ (r : List ℕ) (m : Result HeadFields Flaw) (p b : ℕ) (old new debit credit : Number) where
  pub head-words : ((k : Kept)
      → told_head k m
      ≡ head_tested (record { account = account p b; before = k.head; old = old; new = new; debit = debit; credit = credit; behind = k.head_end }))
      → p ≡ word_here r 8 → b ≡ word_here r 16
      → (w3 w4 w5 w6 : ℕ) → old ≡ word_signed w3 → w3 ≡ word_here r 24 → new ≡ word_signed w4 → w4 ≡ word_here r 32
      → debit ≡ word_signed w5 → w5 ≡ word_here r 40 → credit ≡ word_signed w6 → w6 ≡ word_here r 48
      → told_head (in_row r) m ≡ head_tested (head_in r)
  unfolding head_in
  head-words t e1 e2 w3 w4 w5 w6 s3 e3 s4 e4 s5 e5 s6 e6 = t (in_row r) ∙ rw (e1, e2, s3, e3, s4, e4, s5, e5, s6, e6) refl

-- ---- `read_movement`

module _ (r : List ℕ) (m : Result MovementFields Flaw) (p b q c amount code variable : ℕ) where
  pub movement-words : ((k : Kept)
      → told_movement k m
      ≡ movement_tested (movement_of k (record { prefix = p; base = b; otherprefix = q; otherbase = c; amount = amount; code = code; variable = variable })))
      → p ≡ word_here r 8 → b ≡ word_here r 16 → q ≡ word_here r 24 → c ≡ word_here r 32 → amount ≡ word_here r 40 → code ≡ word_here r 48 → variable ≡ word_here r 56
      → told_movement (in_row r) m ≡ movement_tested (movement_in r)
  unfolding movement_in
  movement-words t e1 e2 e3 e4 e5 e6 e7 = t (in_row r) ∙ rw (e1, e2, e3, e4, e5, e6, e7) refl

-- ---- `read_row`: w is word 0

module _ (r : List ℕ) (long : length r ≡ 136) (w : ℕ) (e : w ≡ word_here r 0) where
  thing : thing_in r ≡ pick (eqb w 74) (a_head (head_in r)) (pick (eqb w 75) (a_movement (movement_in r)) strange)
  unfolding thing_in
  thing = rw e (pick-false strange _ (le-ltb (length r) statement_row (omega arith)))

  pub movement-found : w ≡ 75 → (m : Result MovementFields Flaw) → told_movement (in_row r) m ≡ movement_tested (movement_in r) → movement_is (told_movement (in_row r) m) ≡ tested (thing_in r)
  unfolding tested pick
  movement-found is m g = ap movement_is g ∙ rw (thing, is) refl

  pub head-found : w ≡ 74 → (m : Result HeadFields Flaw) → told_head (in_row r) m ≡ head_tested (head_in r) → head_is (told_head (in_row r) m) ≡ tested (thing_in r)
  unfolding tested pick
  head-found is m g = ap head_is g ∙ rw (thing, is) refl

  pub nothing-found : (w ≡ 75 → ⊥) → (w ≡ 74 → ⊥) → no_record ≡ tested (thing_in r)
  unfolding tested pick
  nothing-found a b = rw (thing, ne_eqb w 74 b, ne_eqb w 75 a) refl

pub ruleset kinds = (movement-found, head-found, nothing-found)
