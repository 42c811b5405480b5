-- The digits that a text begins with. Document 01, "Lines". Assumes nothing.
use Rattle.std.specs.Prelude.{◌≡◌, ℕ, ◌-◌, ◌<◌, ◌≤◌, false, List, [], ◌∷◌, take}
use Rattle.base.specs.Pick.{pick}
use Rattle.paper.specs.Bytes.{is_digit}

-- all digits before the first other byte
unfoldable pub front : List ℕ → List ℕ
front [] = []
front (x ∷ s) = pick (is_digit x) (x ∷ front s) []

-- no more than `most` of them
abbrev pub run : ℕ → List ℕ → List ℕ
run most s = front (take most s)

-- d is what the digit b stands for, or more than 9 where b is none
pub record Worth (b d : ℕ) : Type 0 where
  pub digit : d ≤ 9 → (48 ≤ b) × (b ≤ 57) × (d ≡ b - 48)
  pub other : 9 < d → is_digit b ≡ false
