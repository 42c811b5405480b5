-- An amount in plain digits is read back, on every sheet: it holds no comma. Assumes nothing.
use mathlib.Core.Path.{◌≡◌, refl, ◌∙◌}
use mathlib.Core.Bool.{Bool, true, false}
use mathlib.Core.List.{List}
use Prim.Native.Nat.{ℕ, ◌^◌, ◌≤◌, ◌<◌}
use native.Mathlib.Omega.{arith}
use lib.ListN.{length}
use borrow.Author.Tests.{le-ltb}
use Rattle.base.specs.Pick.{pick}
use Rattle.base.specs.Seek.{seek, Free}
use Rattle.paper.specs.Read.{value, given}
use Rattle.paper.specs.Bytes.{comma, is_digit}
use Rattle.paper.specs.Numerals.{digits, decimal}
use Rattle.paper.specs.Amounts.{read_amount, read_total, amount_proper, read_item_amount}
use Rattle.numeral.proofs.Plain.{decimal-plain, digit-free}
use Rattle.numeral.proofs.Back.{decimal-back}
use Rattle.amount.proofs.Sound.{Payable, proper-payable}

decimal-free : (v : ℕ) → Free comma (decimal v)
unfolding is_digit pick
decimal-free v = digit-free 44 (decimal v) (decimal-plain v) refl

-- digits alone are read as digits, whether a comma may stand or not
plain-amount : (may : Bool) (most : ℕ) (s : List ℕ) → Free comma s → read_amount may most s ≡ digits 1 most s
unfolding read_amount pick
plain-amount true most s h = simp (le-ltb (seek comma s) (length s) (omega arith))
plain-amount false most s h = refl

-- a number of at most 19 digits
pub amount-decimal : (may : Bool) (most v : ℕ) → 0 < most → most ≤ 19 → v < 10 ^ most → read_amount may most (decimal v) ≡ value v
amount-decimal may most v p m h =
    plain-amount may most (decimal v) (decimal-free v) ∙ decimal-back most v p (omega arith) h

pub total-back : (may : Bool) (v : ℕ) → v < 10 ^ 14 → read_total may (decimal v) ≡ value v
unfolding read_total
total-back may v h = amount-decimal may 14 v (omega arith) (omega arith) h

pub amount-back : (may : Bool) (most max v : ℕ) → 0 < most → most ≤ 19 → max < 10 ^ most → amount_proper max v ≡ true → read_item_amount may most max (decimal v) ≡ value v
unfolding read_item_amount given pick
amount-back may most max v p m b h =
    let w : Payable max v = proper-payable max v h in
    rw (amount-decimal may most v p m (omega arith), h)
