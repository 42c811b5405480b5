-- What digits at their places say of a date. Document 01, "Lines", due date. Assumes nothing.
use Rattle.std.specs.Prelude.{ℕ, ◌+◌, ◌-◌, ◌*◌, ◌≤◌, ◌<◌, ◌≡◌, true, List}
use Rattle.base.specs.Seek.{all}
use Rattle.paper.specs.Bytes.{is_digit}
use Rattle.paper.specs.Days.{real, short_day}

-- n is the number of the two digits a and b, or more than 99
pub record Two (a b n : ℕ) : Type 0 where
  pub number : n ≤ 99 → (48 ≤ a) × (a ≤ 57) × (48 ≤ b) × (b ≤ 57) × (n ≡ (a - 48) * 10 + (b - 48))

-- d is the day that the text spells with digits alone as DDMMRR, or 0
pub record Spelled (t : List ℕ) (d : ℕ) : Type 0 where
  pub day : 0 < d → (all is_digit t ≡ true) × (short_day t ≡ real d)
