-- The four bytes at a place, one by one. Assumes nothing.
use Rattle.std.proofs.Common.{◌≡◌, ℕ, ◌+◌, ◌<◌, ◌≤◌, true, List, [], ◌∷◌, length, get_or, take, drop, refl, add-one, arith, drop-cons}
use Rattle.base.specs.Pick.{pick}
use Rattle.base.specs.Seek.{all}
use Rattle.paper.specs.Bytes.{is_digit}
use Rattle.numeral.specs.placed.Placed.{Placed}

module _ (s : List ℕ) (at : ℕ) (l : at + 4 ≤ length s) where
  one : (i : ℕ) → i < at + 4 → (j : ℕ) → j ≡ i + 1 → drop i s ≡ get_or s i 0 ∷ drop j s
  one i h j e = rw (e, add-one) (drop-cons s i 0 (omega arith))

  pub fours : take 4 (drop at s) ≡ get_or s at 0 ∷ get_or s (at + 1) 0 ∷ get_or s (at + 2) 0 ∷ get_or s (at + 3) 0 ∷ []
  fours =
      rw (
        one at (omega arith) (at + 1) refl,
        one (at + 1) (omega arith) (at + 2) (omega arith),
        one (at + 2) (omega arith) (at + 3) (omega arith),
        one (at + 3) (omega arith) (at + 4) (omega arith),
      )

  -- four that are digits
  pub placed-four : is_digit (get_or s at 0) ≡ true → is_digit (get_or s (at + 1) 0) ≡ true → is_digit (get_or s (at + 2) 0) ≡ true → is_digit (get_or s (at + 3) 0) ≡ true → Placed 4 s at
  unfolding all pick
  placed-four a b c d = record { inside = l; plain = rw fours (simp (a, b, c, d)) }
