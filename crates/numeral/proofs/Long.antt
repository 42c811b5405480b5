-- How many digits `decimal n` has. Assumes nothing.
use Rattle.std.proofs.Common.{ℕ, zero, suc, ◌+◌, ◌/◌, ◌%◌, ◌^◌, ◌<◌, ◌≤◌, List, [], ◌∷◌, length, pow-suc, arith, lit<, le-ltb, lt-ltb}
use native.Mathlib.Nat.{one-le-pow}
use Rattle.base.specs.Pick.{pick}
use Rattle.base.proofs.Cases.{by-lt}
use Rattle.paper.specs.Numerals.{dec_on, decimal}

-- a number below 10 ^ m takes at most m places more
dec-most : (k m n : ℕ) (s : List ℕ) → 0 < m → n < 10 ^ m → length (dec_on k n s) ≤ m + length s
unfolding dec_on pick
dec-most zero m n s p h = omega arith
dec-most (suc k) zero n s p h = omega arith
dec-most (suc k) (suc zero) n s p h = simp (lt-ltb n 10 h) (omega arith)
dec-most (suc k) (suc (suc m)) n s p h =
    by-lt n 10
    (λ lt. simp (lt-ltb n 10 lt) (omega arith))
    (λ le. simp (le-ltb n 10 le) (omega (arith, dec-most k (suc m) (n / 10) ((48 + n % 10) ∷ s) (omega arith) (omega (arith, pow-suc 10 (suc m))))))

-- and at least one
dec_some : (k n : ℕ) (s : List ℕ) → length s < length (dec_on (suc k) n s)
unfolding dec_on pick
dec_some zero n s = by-lt n 10 (λ lt. simp (lt-ltb n 10 lt) (omega arith)) (λ le. simp (le-ltb n 10 le) (omega arith))
dec_some (suc k) n s =
    by-lt n 10
    (λ lt. simp (lt-ltb n 10 lt) (omega arith))
    (λ le. simp (le-ltb n 10 le) (omega (arith, dec_some k (n / 10) ((48 + n % 10) ∷ s))))

-- one from 10 ^ j on takes more than j
dec-least : (k j n : ℕ) (s : List ℕ) → n < 10 ^ k → 10 ^ j ≤ n → j + length s < length (dec_on k n s)
unfolding dec_on pick
dec-least zero j n s h g = absurd (omega (arith, one-le-pow j 10 (lit< tt)))
dec-least (suc k) zero n s h g = omega (arith, dec_some k n s)
dec-least (suc k) (suc j) n s h g =
    by-lt n 10
    (λ lt. absurd (omega (arith, pow-suc 10 j, one-le-pow j 10 (lit< tt))))
    (λ le. simp (le-ltb n 10 le) (omega (arith, dec-least k j (n / 10) ((48 + n % 10) ∷ s) (omega (arith, pow-suc 10 k)) (omega (arith, pow-suc 10 j)))))

pub decimal-some : (n : ℕ) → 1 ≤ length (decimal n)
unfolding decimal
decimal-some n = omega (arith, dec_some 19 n [])

pub decimal-most : (m n : ℕ) → 0 < m → n < 10 ^ m → length (decimal n) ≤ m
unfolding decimal
decimal-most m n p h = omega (arith, dec-most 20 m n [] p h)

pub decimal-least : (k n : ℕ) → n < 10 ^ 20 → 10 ^ k ≤ n → k < length (decimal n)
unfolding decimal
decimal-least k n b h = omega (arith, dec-least 20 k n [] b h)
