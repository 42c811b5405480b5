-- Digits with zeros in front, and how many digits a number has: `decimal` is `fixed` at its own width. Assumes nothing.
use Rattle.std.proofs.Common.{◌≡◌, ℕ, zero, suc, ◌+◌, ◌/◌, ◌%◌, ltb, List, [], ◌∷◌, ◌++◌, length, refl, ap, ◌∙◌, mod-eq_of_lt, arith, le-ltb, lt-ltb}
use Rattle.base.specs.Pick.{pick}
use Rattle.base.proofs.Cases.{by-lt}
use Rattle.paper.specs.Numerals.{dec_on, decimal, fixed_on, fixed}

-- how many digits n has, at most k
unfoldable pub width_on : ℕ → ℕ → ℕ
width_on zero n = 0
width_on (suc k) n = pick (ltb n 10) 1 (suc (width_on k (n / 10)))

-- digits in front of s, and t behind
pub fixed-append : (k n : ℕ) (s t : List ℕ) → fixed_on k n s ++ t ≡ fixed_on k n (s ++ t)
unfolding fixed_on
fixed-append zero n s t = refl
fixed-append (suc k) n s t = fixed-append k (n / 10) ((48 + n % 10) ∷ s) t

pub fixed-long : (k n : ℕ) (s : List ℕ) → length (fixed_on k n s) ≡ k + length s
unfolding fixed_on
fixed-long zero n s = omega arith
fixed-long (suc k) n s = omega (arith, fixed-long k (n / 10) ((48 + n % 10) ∷ s))

-- `fixed k n` has k bytes
pub fixed-length : (k n : ℕ) → length (fixed k n) ≡ k
unfolding fixed
fixed-length k n = omega (arith, fixed-long k n [])

-- the digits of n are as many digits as n has
dec-fixed : (k n : ℕ) (s : List ℕ) → dec_on k n s ≡ fixed_on (width_on k n) n s
unfolding dec_on fixed_on width_on pick
dec-fixed zero n s = refl
dec-fixed (suc k) n s =
    by-lt n 10
    (λ lt. simp (lt-ltb n 10 lt, mod-eq_of_lt lt))
    (λ le. simp (le-ltb n 10 le) (dec-fixed k (n / 10) ((48 + n % 10) ∷ s)))

dec-width : (k n : ℕ) → length (dec_on k n []) ≡ width_on k n
dec-width k n = ap length (dec-fixed k n []) ∙ omega (arith, fixed-long (width_on k n) n [])

pub decimal-width : (n : ℕ) → length (decimal n) ≡ width_on 20 n
unfolding decimal
decimal-width n = dec-width 20 n

-- n with no needless zeros is n in as many digits as it has
pub decimal-fixed : (n : ℕ) → decimal n ≡ fixed (length (decimal n)) n
unfolding decimal fixed
decimal-fixed n = rw (dec-width 20 n) (dec-fixed 20 n [])
