-- An item's texts as refusal 21 goes over them. Assumes nothing.
use Rattle.std.specs.Prelude.{ℕ, ◌≡◌, true, List}
use Rattle.sheet.specs.declared.Style.{Style}
use Rattle.paper.specs.Texts.{taken, name_carried}
use Rattle.paper.specs.Batch.{Item}
use Rattle.paper.specs.Proper.{Verdict, check}
use Rattle.paper.specs.Carried.{parts_carried_from}
use Rattle.rows.specs.declared.read.ItemRow.{ItemRow}
use Rattle.rows.specs.read.Told.{text_of_span}

-- the four parts, then the name
abbrev pub texts_carried : Style → ℕ → Item → Verdict → Verdict
texts_carried y k x rest = parts_carried_from y k 11 0 x.parts (check k 19 (name_carried y x.name) rest)

-- the sheet takes the bytes of all parts
pub record Taken (y : Style) (t : List ℕ) (x : ItemRow) : Type 0 where
  pub first : taken y (text_of_span t x.part1) ≡ true
  pub second : taken y (text_of_span t x.part2) ≡ true
  pub third : taken y (text_of_span t x.part3) ≡ true
  pub fourth : taken y (text_of_span t x.part4) ≡ true
