-- What the laws of rows say of a text's place in its line. Assumes nothing.
use Rattle.std.specs.Prelude.{◌≡◌, List, [], ◌∷◌, ℕ, length, take, drop}
use Rattle.paper.specs.Texts.{Piece, Noted}

-- the bytes s stand in w from the place `at` on
abbrev pub Here : List ℕ → ℕ → List ℕ → Type 0
Here w at s = take (length s) (drop at w) ≡ s

-- the piece stands in the line w where it says; an empty one does anywhere
abbrev pub Lies : List ℕ → Piece → Type 0
Lies w p = Here w p.place p.bytes

-- each piece does
abbrev pub Lie : List ℕ → List Piece → Type 0
Lie w [] = Unit {0}
Lie w (p ∷ ps) = Lies w p × Lie w ps

-- four parts and a name, each in its place
pub record Placed (w : List ℕ) (x : Noted) : Type 0 where
  pub four : length x.parts ≡ 4
  pub parts : Lie w x.parts
  pub name : Lies w x.name
