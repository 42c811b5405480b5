-- Texts without ` NP:`. Document 02, W-201. Assumes nothing.
use Rattle.std.specs.Prelude.{ℕ, List, [], ◌∷◌}
use Rattle.base.specs.Seek.{Free}
use Rattle.paper.specs.Bytes.{mark}

-- the parts of a text hold no ` NP:`
abbrev pub Unmarked : List (List ℕ) → Type 0
Unmarked [] = Unit {0}
Unmarked (p ∷ ps) = Free mark p × Unmarked ps
