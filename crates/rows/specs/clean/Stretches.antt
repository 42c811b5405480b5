-- Stretches of lent bytes that texts lie in. Assumes nothing.
use Rattle.std.specs.Prelude.{◌+◌, ◌≤◌, ◌<◌, ℕ, ◌≡◌, true, List}
use Rattle.base.specs.Seek.{all}
use Rattle.paper.specs.Bytes.{is_clean}
use Rattle.text.specs.declared.span.Span.{Span}
use Rattle.rows.specs.declared.clean.Stretch.{Stretch}
use Rattle.rows.specs.declared.read.ItemRow.{ItemRow}
use Rattle.rows.specs.read.Told.{text_of_span}

-- a text lies in a stretch, if it has bytes
abbrev pub Lies : Stretch → Span → Type 0
Lies a p = 0 < p.len → (a.from ≤ p.at) × (p.at + p.len ≤ a.to)

-- r reaches as far as a, to both sides
pub record Reaches (a r : Stretch) : Type 0 where
  pub down : r.from ≤ a.from
  pub up : a.to ≤ r.to

-- all four parts of an item lie in a stretch
pub record HoldsParts (a : Stretch) (x : ItemRow) : Type 0 where
  pub first : Lies a x.part1
  pub second : Lies a x.part2
  pub third : Lies a x.part3
  pub fourth : Lies a x.part4

-- none of them holds `#` or `~`
pub record CleanParts (t : List ℕ) (x : ItemRow) : Type 0 where
  pub first : all is_clean (text_of_span t x.part1) ≡ true
  pub second : all is_clean (text_of_span t x.part2) ≡ true
  pub third : all is_clean (text_of_span t x.part3) ≡ true
  pub fourth : all is_clean (text_of_span t x.part4) ≡ true
