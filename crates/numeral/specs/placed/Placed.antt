-- Digits that stand at a known place of a line. Document 01, "Lines". Assumes nothing.
use Rattle.std.specs.Prelude.{◌≡◌, ℕ, ◌+◌, ◌≤◌, true, List, length, take, drop}
use Rattle.base.specs.Seek.{all}
use Rattle.paper.specs.Bytes.{is_digit}

-- n digits stand at `at` of the line s
pub record Placed (n : ℕ) (s : List ℕ) (at : ℕ) : Type 0 where
  pub inside : at + n ≤ length s
  pub plain : all is_digit (take n (drop at s)) ≡ true
