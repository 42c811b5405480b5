-- A number that is spelled is read back. Assumes nothing.
use Rattle.std.proofs.Common.{◌≡◌, ℕ, zero, suc, ◌+◌, ◌*◌, ◌/◌, ◌%◌, ◌^◌, ◌<◌, ◌≤◌, List, [], ◌∷◌, length, ap, ◌∙◌, pow-suc, arith, le-ltb, lt-ltb}
use Rattle.base.specs.Pick.{pick}
use Rattle.base.proofs.Cases.{by-lt}
use Rattle.paper.specs.Read.{value}
use Rattle.paper.specs.Numerals.{digits_on, digits, dec_on, decimal, fixed_on, fixed}
use Rattle.numeral.proofs.Digits.{in-range, ten-le}
use Rattle.numeral.proofs.Fixed.{fixed-length}
use Rattle.numeral.proofs.Plain.{range-digit}
use Rattle.numeral.proofs.Long.{decimal-some, decimal-most}

-- the digit d, read on from v: w is what that makes
read-digit : (v d w : ℕ) (s : List ℕ) → d ≤ 9 → v * 10 + d ≡ w → digits_on v ((48 + d) ∷ s) ≡ digits_on w s
unfolding digits_on pick
read-digit v d w s h e = simp (range-digit (48 + d) (omega arith) (omega arith)) (ap (λ (n : ℕ). digits_on n s) (omega arith))

-- the digits of n, read from 0, are n
read-dec : (k n : ℕ) (s : List ℕ) → n < 10 ^ k → digits_on 0 (dec_on k n s) ≡ digits_on n s
unfolding dec_on pick
read-dec zero n s h = ap (λ (m : ℕ). digits_on m s) (omega arith)
read-dec (suc k) n s h =
    by-lt n 10
    (λ lt. simp (lt-ltb n 10 lt) (read-digit 0 n n s (omega arith) (omega arith)))
    (λ le. simp (le-ltb n 10 le) (read-dec k (n / 10) ((48 + n % 10) ∷ s) (omega (arith, pow-suc 10 k)) ∙ read-digit (n / 10) (n % 10) n s (omega arith) (omega arith)))

read-fixed : (k n : ℕ) (s : List ℕ) → n < 10 ^ k → digits_on 0 (fixed_on k n s) ≡ digits_on n s
unfolding fixed_on
read-fixed zero n s h = ap (λ (m : ℕ). digits_on m s) (omega arith)
read-fixed (suc k) n s h =
    read-fixed k (n / 10) ((48 + n % 10) ∷ s) (omega (arith, pow-suc 10 k)) ∙ read-digit (n / 10) (n % 10) n s (omega arith) (omega arith)

-- as many digits as allowed
pub decimal-within : (least most n : ℕ) → n < 10 ^ 20 → least ≤ length (decimal n) → length (decimal n) ≤ most → digits least most (decimal n) ≡ value n
unfolding decimal digits_on
decimal-within least most n b lo hi = in-range least most (decimal n) lo hi ∙ read-dec 20 n [] b

-- a number below 10 ^ most, of at least `least` digits
pub decimal-back-from : (least most n : ℕ) → 0 < most → most ≤ 20 → n < 10 ^ most → least ≤ length (decimal n) → digits least most (decimal n) ≡ value n
decimal-back-from least most n p q h lo =
    decimal-within least most n (omega (arith, ten-le most 20 q)) lo (decimal-most most n p h)

-- any number below 10 ^ most
pub decimal-back : (most n : ℕ) → 0 < most → most ≤ 20 → n < 10 ^ most → digits 1 most (decimal n) ≡ value n
decimal-back most n p q h = decimal-back-from 1 most n p q h (decimal-some n)

-- a number below 10 ^ k in k digits
pub fixed-within : (least most k n : ℕ) → least ≤ k → k ≤ most → n < 10 ^ k → digits least most (fixed k n) ≡ value n
unfolding fixed digits_on
fixed-within least most k n lo hi h =
    let e : length (fixed k n) ≡ k = fixed-length k n in
    in-range least most (fixed k n) (omega arith) (omega arith) ∙ read-fixed k n [] h

pub fixed_back : (k n : ℕ) → n < 10 ^ k → digits k k (fixed k n) ≡ value n
fixed_back k n h = fixed-within k k k n (omega arith) (omega arith) h
