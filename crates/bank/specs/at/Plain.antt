-- The bank field that nearly every item has. Document 01, "Lines", item. Assumes nothing.
use Rattle.std.specs.Prelude.{ℕ, ◌+◌, ◌≤◌, ◌≡◌, true, false, List, length, take, drop}
use Rattle.base.specs.Seek.{all}
use Rattle.paper.specs.Bytes.{is_digit, field_of, null}
use Rattle.numeral.specs.Zero.{is_zero}

-- the field of the line s at `at` is eight digits, and the first four are not all 0
pub record PlainBank (s : List ℕ) (at : ℕ) : Type 0 where
  pub long : at + 8 ≤ length s
  pub plain : all is_digit (take 8 (drop at s)) ≡ true
  pub some : all is_zero (take 4 (drop at s)) ≡ false
  pub ends : null (field_of (drop (at + 8) s)) ≡ true
