-- What the laws of texts say. Assumes nothing.
use Rattle.std.specs.Prelude.{◌≡◌, true, false, List, [], map, ℕ, length}
use Rattle.sheet.specs.declared.Style.{Style}
use Rattle.paper.specs.Read.{Field, value}
use Rattle.paper.specs.Texts.{Piece, Noted, parts_proper, parts_carried, name_proper, name_carried}

-- the bytes of each piece, wherever it stands
abbrev pub bytes_of : List Piece → List (List ℕ)
bytes_of ps = map (λ (p : Piece). p.bytes) ps

-- Four parts and a name are as "The batch" says, and the sheet can carry them.
pub record Sendable (y : Style) (parts : List (List ℕ)) (name : List ℕ) : Type 0 where
  pub four : length parts ≡ 4
  pub parts-proper : parts_proper parts ≡ true
  pub parts-carried : parts_carried y 0 parts ≡ true
  pub name-proper : name_proper name ≡ true
  pub name-carried : name_carried y name ≡ true

-- What was read is that; and where nothing is cut there is no warning.
pub record Sound (y : Style) (x : Noted) : Type 0 where
  pub sendable : Sendable y (bytes_of x.parts) x.name.bytes
  pub uncut : y.cuts ≡ false → x.warnings ≡ []

-- The answer r is these parts and this name, without a warning.
pub record Back (r : Field Noted) (parts : List (List ℕ)) (name : List ℕ) : Type 0 where
  pub texts : Noted
  pub reads : r ≡ value texts
  pub parts_back : bytes_of texts.parts ≡ parts
  pub name_back : texts.name.bytes ≡ name
  pub no_warning : texts.warnings ≡ []
