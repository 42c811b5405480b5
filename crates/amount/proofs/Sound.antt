-- What the readers of amounts accept. Assumes nothing.
use mathlib.Core.Path.{◌≡◌, refl, sym}
use mathlib.Core.Bool.{Bool, true, false}
use mathlib.Core.Logic.{◌⊎◌, inl, inr}
use mathlib.Core.List.{List}
use Prim.Native.Nat.{ℕ, ◌+◌, ◌*◌, ◌^◌, ◌≤◌, ◌<◌}
use native.Mathlib.Omega.{arith}
use lib.Dec.{ltb}
use lib.ListN.{length, drop}
use borrow.Author.Tests.{le-ltb, le-leb, ltb-false, leb-true}
use Rattle.base.specs.Pick.{pick}
use Rattle.base.specs.Seek.{seek, before}
use Rattle.base.proofs.Cases.{either, by-test}
use Rattle.base.proofs.Seek.{never}
use Rattle.paper.specs.Read.{Field, value}
use Rattle.paper.specs.Bytes.{comma}
use Rattle.paper.specs.Numerals.{digits}
use Rattle.paper.specs.Amounts.{with_comma, read_amount, read_total, amount_proper, read_item_amount}
use Rattle.numeral.proofs.Sound.{digits-sound, digits-fault}
use Rattle.numeral.proofs.given.Says.{Says, of_value, of_fault, says, says-given, says_map, says-value}

-- what an item's amount is: above zero and within its limit
pub record Payable (max v : ℕ) : Type 0 where
  pub some : 0 < v
  pub within : v ≤ max

pub proper-payable : (max v : ℕ) → amount_proper max v ≡ true → Payable max v
unfolding amount_proper pick
proper-payable max v h =
    by-test (ltb v 1) (λ e. never (sym (simp e at h)))
    (λ e. record { some = omega (arith, ltb-false v 1 e); within = leb-true v max (simp e at h) })

pub payable-proper : (max v : ℕ) → 0 < v → v ≤ max → amount_proper max v ≡ true
unfolding amount_proper pick
payable-proper max v l h = simp (le-ltb v 1 l, le-leb v max h)

-- a number below the limit, or refusal 4
abbrev Below : ℕ → Field ℕ → Type 0
Below bound = Says (λ v. v < bound) (λ n. n ≡ 4)

digits-below : (least most bound : ℕ) (s : List ℕ) → 10 ^ most ≤ bound → Below bound (digits least most s)
digits-below least most bound s b =
    says (λ v. v < bound) (λ n. n ≡ 4) (digits least most s)
    (λ v e. omega (arith, digits-sound least most s v e))
    (digits-fault least most s)

comma-below : (s : List ℕ) → Below (10 ^ 13) (with_comma s)
unfolding with_comma
comma-below s =
    says-given (λ v. v < 10 ^ 11) (λ v. v < 10 ^ 13) (λ n. n ≡ 4) (digits 1 11 (before comma s)) _ (digits-below 1 11 (10 ^ 11) _ (omega arith)) λ crowns c.
    says-given (λ v. v < 10 ^ 2) (λ v. v < 10 ^ 13) (λ n. n ≡ 4) (digits 2 2 (drop (seek comma s + 1) s)) _ (digits-below 2 2 (10 ^ 2) _ (omega arith)) λ rest r.
    of_value (λ v. v < 10 ^ 13) (λ n. n ≡ 4) (crowns * 100 + rest) (omega arith)

amount-below : (may : Bool) (most bound : ℕ) (s : List ℕ) → 10 ^ most ≤ bound → 10 ^ 13 ≤ bound → Below bound (read_amount may most s)
unfolding read_amount
amount-below may most bound s b c =
    either (Below bound) (pick may (ltb (seek comma s) (length s)) false)
    (λ e. says_map _ _ _ _ (with_comma s) (λ v h. omega arith) (λ n h. h) (comma-below s))
    (λ e. digits-below 1 most bound s b)

module _ (may : Bool) (s : List ℕ) where
  total-below : Below (10 ^ 14) (read_total may s)
  unfolding read_total
  total-below = amount-below may 14 (10 ^ 14) s (omega arith) (omega arith)

  -- a total has at most 14 digits
  pub total-sound : (v : ℕ) → read_total may s ≡ value v → v < 10 ^ 14
  total-sound = says-value _ _ _ total-below

module _ (may : Bool) (most max : ℕ) (s : List ℕ) where
  item-says : Says (λ v. amount_proper max v ≡ true) (λ n. (n ≡ 4) ⊎ (n ≡ 6)) (read_item_amount may most max s)
  unfolding read_item_amount
  item-says =
      says-given (λ v. v < 10 ^ most + 10 ^ 13) (λ v. amount_proper max v ≡ true) (λ n. (n ≡ 4) ⊎ (n ≡ 6)) (read_amount may most s) _
      (says_map _ _ _ _ (read_amount may most s) (λ v h. h) (λ n e. inl e) (amount-below may most (10 ^ most + 10 ^ 13) s (omega arith) (omega arith))) λ v h.
      either (Says (λ v. amount_proper max v ≡ true) (λ n. (n ≡ 4) ⊎ (n ≡ 6))) (amount_proper max v)
      (λ e. of_value _ _ v e)
      (λ e. of_fault _ _ 6 (inr refl))

  -- an item's amount is above zero and within its limit
  pub amount-sound : (v : ℕ) → read_item_amount may most max s ≡ value v → amount_proper max v ≡ true
  amount-sound = says-value _ _ _ item-says

  pub amount-within : (v : ℕ) → read_item_amount may most max s ≡ value v → Payable max v
  amount-within v e = proper-payable max v (amount-sound v e)
