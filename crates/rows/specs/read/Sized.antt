-- An item's row that is proper, as its writers need it: its texts lie inside what was lent, and nothing is too large. Assumes nothing.
use Rattle.std.specs.Prelude.{ℕ, ◌≤◌, List}
use Rattle.paper.specs.Batch.{most14}
use Rattle.text.specs.span.Held.{Within}
use Rattle.rows.specs.declared.read.ItemRow.{ItemRow}

-- all five texts lie within the bytes
pub record Inside (t : List ℕ) (x : ItemRow) : Type 0 where
  pub first : Within t x.part1
  pub second : Within t x.part2
  pub third : Within t x.part3
  pub fourth : Within t x.part4
  pub named : Within t x.name

-- "The batch": texts of 35 bytes at most, symbols, banks, priorities and amounts of so many digits
pub record Sized (t : List ℕ) (x : ItemRow) : Type 0 where
  pub inside : Inside t x
  pub short1 : x.part1.len ≤ 35
  pub short2 : x.part2.len ≤ 35
  pub short3 : x.part3.len ≤ 35
  pub short4 : x.part4.len ≤ 35
  pub shortname : x.name.len ≤ 35
  pub lowbank : x.bank ≤ 9999
  pub lowamount : x.amount ≤ most14
  pub lowvariable : x.variable ≤ 9999999999
  pub lowspecific : x.specific ≤ 9999999999
  pub lowconstant : x.constant ≤ 9999
  pub lowpriority : x.priority ≤ 9
