-- An amount of digits alone holds no comma, so it is a number that is read on. Assumes nothing.
use mathlib.Core.Path.{◌≡◌, refl, ◌∙◌}
use mathlib.Core.Bool.{Bool, true, false}
use mathlib.Core.List.{List}
use Prim.Native.Nat.{ℕ}
use native.Mathlib.Omega.{arith}
use Rattle.std.proofs.Common.{Result, Ok}
use lib.Dec.{ltb}
use lib.ListN.{length, take, drop}
use lib.Seq.{take-length, drop-length}
use borrow.Author.Tests.{le-ltb}
use Rattle.base.specs.Pick.{pick}
use Rattle.base.specs.Seek.{all, seek}
use Rattle.base.proofs.Cases.{either, pick-false}
use Rattle.base.proofs.Seek.{seek-over}
use Rattle.refusal.specs.declared.Refusal.{Refusal}
use Rattle.paper.specs.Read.{value, fault, given}
use Rattle.paper.specs.Bytes.{is_digit, comma, field_of}
use Rattle.paper.specs.Numerals.{digits}
use Rattle.paper.specs.Amounts.{read_amount, read_total, amount_proper, read_item_amount}
use Rattle.numeral.proofs.Sound.{digits-plain}
use Rattle.numeral.specs.field.At.{At, found, ending, field_at}
use Rattle.numeral.specs.declared.field.Run.{Run}
use Rattle.numeral.specs.field.Told.{told}
use Rattle.numeral.proofs.field.Steps.{found-value, found-end}
use Rattle.numeral.proofs.field.Onward.{onward, given-at}

module _ (may : Bool) where
  -- the field f is the number v
  plain-amount : (most : ℕ) (f : List ℕ) (v : ℕ) → digits 1 most f ≡ value v → read_amount may most f ≡ value v
  unfolding read_amount is_digit pick seek
  plain-amount most f v g =
      let a : all is_digit (take (length f) f) ≡ true = rw take-length (digits-plain 1 most f v g) in
      let n : seek comma f ≡ length f = seek-over is_digit 44 refl (length f) f (omega arith) a ∙ rw drop-length (omega arith) in
      let o : pick may (ltb (seek comma f) (length f)) false ≡ false = either (λ x. x ≡ false) may (λ j. le-ltb (seek comma f) (length f) (omega arith)) (λ j. refl) in
      pick-false _ _ o ∙ g

  -- n is what the reader of digits answered
  module _ (s : List ℕ) (at : ℕ) (n : Result Run Refusal) where
    pub digits-amount : (r : At ℕ) (most max : ℕ) → told n ≡ field_at (digits 1 most) s at → (d : Run) → n ≡ Ok d → r ≡ ending d.end (pick (amount_proper max d.value) (value d.value) (fault 6)) → r ≡ field_at (read_item_amount may most max) s at
    unfolding field_at read_item_amount given
    digits-amount r most max g d f q =
        let h : found d.value d.end ≡ field_at (digits 1 most) s at = rw f at g in
        q ∙ rw (plain-amount most (field_of (drop at s)) d.value (found-value (digits 1 most) s at d.value d.end h), ← (found-end (digits 1 most) s at d.value d.end h))

    pub digits-total : told n ≡ field_at (digits 1 14) s at → (d : Run) → n ≡ Ok d → found d.value d.end ≡ field_at (read_total may) s at
    unfolding field_at read_total ending
    digits-total g d f =
        let h : found d.value d.end ≡ field_at (digits 1 14) s at = rw f at g in
        rw (plain-amount 14 (field_of (drop at s)) d.value (found-value (digits 1 14) s at d.value d.end h), ← (found-end (digits 1 14) s at d.value d.end h))

-- an amount that is read on
pub item-field : (r : At ℕ) (may : Bool) (most max : ℕ) (s : List ℕ) (at : ℕ)
    → r ≡ onward (field_at (read_amount may most) s at) (λ v. pick (amount_proper max v) (value v) (fault 6)) → r ≡ field_at (read_item_amount may most max) s at
unfolding field_at read_item_amount
item-field r may most max s at q = q ∙ given-at _ (read_amount may most) s at
