-- The loop of `read_digits`: one more byte of the field, and what the bytes so far may amount to. Assumes nothing.
use Rattle.std.proofs.Common.{◌≡◌, ℕ, ◌+◌, ◌-◌, ◌*◌, ◌^◌, ◌<◌, ◌≤◌, List, length, get_or, drop, sym, ◌∙◌, pow-suc, add-one, arith, lit<, drop_of_length-le, drop-cons, w64, Fits, le-ltb, lt-ltb, le-leb}
use native.Mathlib.Nat.{pow-le-pow_right}
use borrow.Author.Tests.{lt-leb}
use Rattle.base.specs.Pick.{pick}
use Rattle.paper.specs.Read.{Field, value, fault}
use Rattle.paper.specs.Bytes.{is_digit}
use Rattle.paper.specs.Numerals.{digits_on, digits}

-- too few bytes, too many, or neither
module _ (least most : ℕ) (s : List ℕ) where
  pub too_short : length s < least → fault 4 ≡ digits least most s
  unfolding digits pick
  too_short h = simp (lt-ltb _ _ h)

  module _ (h : least ≤ length s) where
    pub too_long : most < length s → fault 4 ≡ digits least most s
    unfolding digits pick
    too_long k = simp (le-ltb _ _ h, lt-ltb _ _ k)

    pub in-range : length s ≤ most → digits least most s ≡ digits_on 0 s
    unfolding digits pick
    in-range k = simp (le-ltb _ _ h, le-ltb _ _ k)

-- The whole says what the rest says, read on from the number v; i is the place.
module _ (whole : Field ℕ) (v : ℕ) (s : List ℕ) (i : ℕ) (inv : whole ≡ digits_on v (drop i s)) where
  module _ (h : i < length s) where
    pub on-digit : 48 ≤ get_or s i 0 → get_or s i 0 ≤ 57 → whole ≡ digits_on (v * 10 + (get_or s i 0 - 48)) (drop (i + 1) s)
    unfolding digits_on is_digit pick
    on-digit lo hi = inv ∙ rw (add-one, drop-cons s i 0 h) (simp (le-ltb (get_or s i 0) 48 lo, le-leb (get_or s i 0) 57 hi))

    pub on-low : get_or s i 0 < 48 → fault 4 ≡ whole
    unfolding digits_on is_digit pick
    on-low lo = sym (inv ∙ rw (drop-cons s i 0 h) (simp (lt-ltb (get_or s i 0) 48 lo)))

    pub on-high : 57 < get_or s i 0 → fault 4 ≡ whole
    unfolding digits_on is_digit pick
    on-high hi = sym (inv ∙ rw (drop-cons s i 0 h) (simp (le-ltb (get_or s i 0) 48 (omega arith), lt-leb (get_or s i 0) 57 hi)))

  pub on-end : length s ≤ i → value v ≡ whole
  unfolding digits_on
  on-end h = sym (inv ∙ rw (drop_of_length-le s h))

-- fewer digits, a smaller bound
pub ten-le : (i j : ℕ) → i ≤ j → 10 ^ i ≤ 10 ^ j
ten-le i j h = pow-le-pow_right (lit< tt) h

-- a number of i digits with the digit x behind it
pub more-digits : (v x i : ℕ) → v < 10 ^ i → x ≤ 57 → v * 10 + (x - 48) < 10 ^ (i + 1)
more-digits v x i h k = rw (add-one, pow-suc) (omega arith)

-- and while 19 digits are not exceeded it fits a word
module _ (v i n most : ℕ) (h : v < 10 ^ i) (a : i < n) (b : n ≤ most) (c : most ≤ 19) where
  short : v * 10 + 9 < 10 ^ 19
  short = omega (arith, more-digits v 57 i h (omega arith), ten-le (i + 1) 19 (omega arith))

  pub fits-times : Fits w64 (v * 10)
  fits-times = omega (arith, short)

  pub fits_more : (x : ℕ) → x ≤ 57 → Fits w64 (v * 10 + (x - 48))
  fits_more x k = omega (arith, short)

pub ruleset reading = (too_short, too_long, in-range, on-digit, on-low, on-high, on-end, more-digits, fits-times, fits_more)
