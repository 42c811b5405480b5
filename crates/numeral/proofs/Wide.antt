-- How many digits a number between two powers of ten has. Assumes nothing.
use Rattle.std.proofs.Common.{◌≡◌, ℕ, suc, ◌+◌, ◌*◌, ◌/◌, ◌%◌, ◌^◌, ◌<◌, ◌≤◌, length, ap, arith, length-append}
use Rattle.paper.specs.Numerals.{decimal, fixed}
use Rattle.numeral.proofs.Digits.{ten-le}
use Rattle.numeral.proofs.Fixed.{fixed-length}
use Rattle.numeral.proofs.Long.{decimal-some, decimal-most, decimal-least}
use Rattle.numeral.proofs.Join.{join-decimal}

pub one-wide : (n : ℕ) → n < 10 → 1 ≡ length (decimal n)
one-wide n h = omega (arith, decimal-some n, decimal-most 1 n (omega arith) h)

pub wide : (k n : ℕ) → k < 20 → 10 ^ k ≤ n → n < 10 ^ suc k → suc k ≡ length (decimal n)
wide k n b lo hi = omega (arith, decimal-least k n (omega (arith, ten-le (suc k) 20 b)) lo, decimal-most (suc k) n (omega arith) hi)

-- one that has more than ten digits
pub long-wide : (n : ℕ) → 10000000000 ≤ n → n < 2 ^ 64 → 10 + length (decimal (n / 10000000000)) ≡ length (decimal n)
long-wide n lo hi =
    let e : n ≡ n / 10000000000 * 10000000000 + n % 10000000000 = omega arith in
    omega (arith, ap (λ (m : ℕ). length (decimal m)) e, ap length (join-decimal 10 (n / 10000000000) (n % 10000000000) (omega arith) (omega arith) (omega arith) (omega arith)), length-append (decimal (n / 10000000000)) (fixed 10 (n % 10000000000)), fixed-length 10 (n % 10000000000))

-- what `short_width` answered, of n or of n with ten digits less
pub some-wide : (n w : ℕ) → w ≡ length (decimal n) → 1 ≤ w
some-wide n w e = omega (arith, decimal-some n)

pub ten-more : (n w : ℕ) → w ≡ length (decimal (n / 10000000000)) → 10000000000 ≤ n → n < 2 ^ 64 → 10 + w ≡ length (decimal n)
ten-more n w e lo hi = omega (arith, long-wide n lo hi)

pub ruleset widths = (some-wide, ten-more)
