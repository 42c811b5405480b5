-- A bit of a word, the set of bits after one of them is set, and the set as a list. Assumes nothing.
use mathlib.Core.Path.{◌≡◌, refl, ap, ◌∙◌}
use mathlib.Core.Logic.{◌≢◌}
use mathlib.Core.Bool.{true}
use mathlib.Core.List.{List, [], ◌∷◌}
use Prim.Native.Nat.{ℕ, zero, suc, ◌+◌, ◌-◌, ◌*◌, ◌/◌, ◌%◌, ◌^◌, ◌<◌}
use native.Mathlib.Nat.{pow-suc, mul-mod_left, div-eq_of_lt, div_self, mod-lt, one-mul, zero-div}
use native.Mathlib.Omega.{arith}
use native.Mathlib.Decide.{ℕ_discrete, dec_lt}
use lib.ListN.{length, get_or, set, replicate}
use lib.Seq.{get_or-set_same, get_or-set_other}
use lib.Dec.{eqb, lit<}
use lib.Bits.{bit_or, or_shr, or_mod, or_zero_r}
use lib.Pow.{pow_pos, pow-lt, pow-add, shl-shr, shl_exact}
use borrow.Author.Tests.{eq-eqb, ne_eqb}
use Rattle.base.specs.Pick.{pick}
use Rattle.paper.specs.FileLine.{member}
use Rattle.fileline.specs.seen.Bits.{bit, Marked, Holds}

-- bit i of a word
abbrev pub at : ℕ → ℕ → ℕ
at w i = w / 2 ^ i % 2

at-or : (a b i : ℕ) → at (bit_or a b) i ≡ bit_or (at a i) (at b i)
at-or a b i = ap (λ (x : ℕ). x % 2) (or_shr a b i) ∙ or_mod (a / 2 ^ i) (b / 2 ^ i) 1

pub at_same : (j : ℕ) → at (2 ^ j) j ≡ 1
at_same j = rw (div_self (pow_pos j))

pub at_other : (i j : ℕ) → i ≢ j → at (2 ^ j) i ≡ 0
at_other i j d = go (dec_lt i j)
  where
    go : Dec (i < j) → at (2 ^ j) i ≡ 0
    go (yes l) =
        let e : j ≡ suc (j - i - 1) + i = omega arith in
        rw (e, pow-add, shl-shr, pow-suc, mul-mod_left)
    go (no n) = rw (div-eq_of_lt (pow-lt {i = j} {j = i} (omega (arith, d))))

or-one : (x : ℕ) → x < 2 → bit_or x 1 ≡ 1
or-one zero l = refl
or-one (suc zero) l = refl
or-one (suc (suc x)) l = absurd (omega arith)

-- k and n are the same number where their words and their bits are
pub same_number : (k n : ℕ) → k / 64 ≡ n / 64 → k % 64 ≡ n % 64 → k ≡ n
same_number k n p q = omega arith

module _ (l : List ℕ) (n : ℕ) (inside : n / 64 < length l) where
  after : List ℕ
  after = set l (n / 64) (bit_or (get_or l (n / 64) 0) (1 * 2 ^ (n % 64) % 2 ^ 64))

  pub one_shl : 1 * 2 ^ (n % 64) % 2 ^ 64 ≡ 2 ^ (n % 64)
  one_shl = shl_exact {a = 1} 1 (n % 64) 64 (lit< tt) (omega arith) ∙ one-mul (2 ^ (n % 64))

  -- in the word of n
  here : (k : ℕ) → k / 64 ≡ n / 64 → get_or after (k / 64) 0 / 2 ^ (k % 64) % 2 ≡ bit_or (at (get_or l (k / 64) 0) (k % 64)) (at (2 ^ (n % 64)) (k % 64))
  unfolding after
  here k e = rw (e, get_or-set_same l (n / 64) _ 0 inside, one_shl) (at-or (get_or l (n / 64) 0) (2 ^ (n % 64)) (k % 64))

  marked : Marked l n (set l (n / 64) (bit_or (get_or l (n / 64) 0) (1 * 2 ^ (n % 64) % 2 ^ 64)))
  unfolding bit after pick
  marked k = go (ℕ_discrete (k / 64) (n / 64)) (ℕ_discrete (k % 64) (n % 64))
    where
      go : Dec (k / 64 ≡ n / 64) → Dec (k % 64 ≡ n % 64) → bit after k ≡ pick (eqb k n) true (bit l k)
      go (yes p) (yes q) =
          rw (here k p, q, at_same (n % 64), or-one (at (get_or l (k / 64) 0) (n % 64)) (mod-lt _ (lit< tt)), eq-eqb k n (same_number k n p q))
      go (yes p) (no q) =
          rw (here k p, at_other (k % 64) (n % 64) q, or_zero_r (at (get_or l (k / 64) 0) (k % 64)), ne_eqb k n (λ e. q (ap (λ (x : ℕ). x % 64) e)))
      go (no p) q = rw (get_or-set_other l (n / 64) (k / 64) _ 0 p, ne_eqb k n (λ e. p (ap (λ (x : ℕ). x / 64) e)))

get_d-zeros : (m i : ℕ) → ◌≡◌ {A = ℕ} (get_or (replicate m 0) i 0) 0
get_d-zeros zero i = refl
get_d-zeros (suc m) zero = refl
get_d-zeros (suc m) (suc i) = get_d-zeros m i

-- ---- the set as the list of the numbers that were put to it, the last one first

-- words of zeros hold nothing
pub holds-none : (m : ℕ) → Holds (replicate m 0) []
unfolding bit member
holds-none m k = rw (get_d-zeros m (k / 64), zero-div)

-- what `with` leaves
pub holds-with : (before after l : List ℕ) (n : ℕ) → Holds before l → Marked before n after → Holds after (n ∷ l)
unfolding member
holds-with before after l n h m k = m k ∙ ap (pick (eqb k n) true) (h k)

pub added : (l : List ℕ) (n : ℕ) → n / 64 < length l
    → Marked l n (set l (n / 64) (bit_or (get_or l (n / 64) 0) (1 * 2 ^ (n % 64) % 2 ^ 64)))
    × ((m : List ℕ) → Holds l m → Holds (set l (n / 64) (bit_or (get_or l (n / 64) 0) (1 * 2 ^ (n % 64) % 2 ^ 64))) (n ∷ m))
added l n inside = (marked l n inside, λ m before. holds-with l _ m n before (marked l n inside))
