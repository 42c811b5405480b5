-- The references of items' rows, word 21 (document 02, W-206): rows that differ in them alone, and rows that have none. Assumes nothing.
use Rattle.std.specs.Prelude.{ℕ, ◌^◌, ◌<◌, ◌≡◌, List, [], ◌∷◌}
use Rattle.paper.specs.Words.{word}

-- Two rows have the same words but for word 21, and where they are an item's, both of its references are below 2^32. Of other rows that word is not
-- looked at.
pub record Alike (r s : List ℕ) : Type 0 where
  pub same : (i : ℕ) → (i ≡ 21 → ⊥) → word r i ≡ word s i
  pub ranged : word r 0 ≡ 3 → (word r 21 < 2 ^ 32) × (word s 21 < 2 ^ 32)

-- row by row
abbrev pub AllAlike : List (List ℕ) → List (List ℕ) → Type 0
AllAlike [] [] = Unit {0}
AllAlike [] (s ∷ ss) = ⊥
AllAlike (r ∷ rs) [] = ⊥
AllAlike (r ∷ rs) (s ∷ ss) = Alike r s × AllAlike rs ss

-- every item's reference is 0
abbrev pub Unreferred : List (List ℕ) → Type 0
Unreferred [] = Unit {0}
Unreferred (r ∷ rs) = (word r 0 ≡ 3 → word r 21 ≡ 0) × Unreferred rs
