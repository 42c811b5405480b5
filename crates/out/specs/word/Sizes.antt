-- How long rows are, and how large their words. Assumes nothing.
use Rattle.std.specs.Prelude.{◌≡◌, List, [], ◌∷◌, ℕ, ◌^◌, ◌<◌, length}

-- every row has w words
abbrev pub Long : ℕ → List (List ℕ) → Type 0
Long w [] = Unit {0}
Long w (r ∷ rs) = (length r ≡ w) × Long w rs

-- words fit eight bytes
abbrev pub Small : List ℕ → Type 0
Small [] = Unit {0}
Small (x ∷ xs) = (x < 2 ^ 64) × Small xs

-- every word of every row does
abbrev pub Smalls : List (List ℕ) → Type 0
Smalls [] = Unit {0}
Smalls (r ∷ rs) = Small r × Smalls rs
