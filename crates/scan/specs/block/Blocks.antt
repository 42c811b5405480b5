-- Bytes that may be passed without a look at each. Assumes nothing.
use Rattle.std.specs.Prelude.{ℕ, ◌-◌, ◌≤◌, ◌≡◌, Bool, true, not, List, eqb, ltb, leb, length, take, drop}
use Rattle.std.specs.Int.Bits.{bit_xor}
use Rattle.base.specs.Seek.{all}

-- a byte above 13 ends no line
abbrev pub is_high : ℕ → Bool
is_high b = leb 14 b

-- a byte other than c
abbrev pub is_other : ℕ → ℕ → Bool
is_other c b = not (eqb b c)

-- a byte that differs from c by more than w in its bits: with w 0 a byte other than c, with c 0 a byte above w
abbrev pub is_far : ℕ → ℕ → ℕ → Bool
is_far c w b = ltb w (bit_xor b c)

-- r is a place of s at or after `at`, and p holds of every byte between
pub record Skips (p : ℕ → Bool) (s : List ℕ) (at r : ℕ) : Type 0 where
  pub from : at ≤ r
  pub inside : r ≤ length s
  pub between : all p (take (r - at) (drop at s)) ≡ true
