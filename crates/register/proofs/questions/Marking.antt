-- A bit of one word taken off, and no other changed. Assumes nothing.
use mathlib.Core.Path.{◌≡◌, ap, ◌∙◌, fun_ext}
use mathlib.Core.Bool.{true, false}
use mathlib.Core.List.{List}
use Prim.Native.Nat.{ℕ, ◌*◌, ◌/◌, ◌%◌, ◌^◌, ◌<◌}
use native.Mathlib.Decide.{ℕ_discrete}
use lib.ListN.{length, get_or, set}
use lib.Seq.{get_or-set_same, get_or-set_other}
use lib.Dec.{eqb}
use lib.Bits.{bit_xor, xor_shr, xor_mod, xor_zero_r}
use borrow.Author.Tests.{eq-eqb, ne_eqb, eqb-true}
use Rattle.base.specs.Pick.{pick}
use Rattle.fileline.specs.seen.Bits.{bit}
use Rattle.fileline.proofs.seen.Laws.{at, at_same, at_other, same_number, one_shl}
use Rattle.register.specs.Marks.{without}

at-xor : (a b i : ℕ) → at (bit_xor a b) i ≡ bit_xor (at a i) (at b i)
at-xor a b i = ap (λ (x : ℕ). x % 2) (xor_shr a b i) ∙ xor_mod (a / 2 ^ i) (b / 2 ^ i) 1

-- the words after the bit of n, which is set, is taken off
abbrev cleared : List ℕ → ℕ → List ℕ
cleared l n = set l (n / 64) (bit_xor (get_or l (n / 64) 0) (1 * 2 ^ (n % 64) % 2 ^ 64))

module _ (l : List ℕ) (n : ℕ) (inside : n / 64 < length l) (on : bit l n ≡ true) where
  -- in the word of n
  here : (k : ℕ) → k / 64 ≡ n / 64 → get_or (cleared l n) (k / 64) 0 / 2 ^ (k % 64) % 2 ≡ bit_xor (at (get_or l (k / 64) 0) (k % 64)) (at (2 ^ (n % 64)) (k % 64))
  here k e = rw (e, get_or-set_same l (n / 64) _ 0 inside, one_shl l n inside) (at-xor (get_or l (n / 64) 0) (2 ^ (n % 64)) (k % 64))

  one-off : (k : ℕ) → bit (cleared l n) k ≡ pick (eqb k n) false (bit l k)
  unfolding bit pick
  one-off k = go (ℕ_discrete (k / 64) (n / 64)) (ℕ_discrete (k % 64) (n % 64))
    where
      go : Dec (k / 64 ≡ n / 64) → Dec (k % 64 ≡ n % 64) → bit (cleared l n) k ≡ pick (eqb k n) false (bit l k)
      go (yes p) (yes q) = rw (here k p, q, at_same (n % 64), p, eqb-true (at (get_or l (n / 64) 0) (n % 64)) 1 on, eq-eqb k n (same_number k n p q))
      go (yes p) (no q) =
          rw (here k p, at_other (k % 64) (n % 64) q, xor_zero_r (at (get_or l (k / 64) 0) (k % 64)), ne_eqb k n (λ e. q (ap (λ (x : ℕ). x % 64) e)))
      go (no p) q = rw (get_or-set_other l (n / 64) (k / 64) _ 0 p, ne_eqb k n (λ e. p (ap (λ (x : ℕ). x / 64) e)))

  pub set-off : bit (set l (n / 64) (bit_xor (get_or l (n / 64) 0) (1 * 2 ^ (n % 64) % 2 ^ 64))) ≡ without n (bit l)
  unfolding without
  set-off = fun_ext one-off
