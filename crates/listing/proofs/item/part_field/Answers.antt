-- `part_field` compares the places in the parts' order.
use Rattle.listing.proofs.item.Places.{part-names}
use Rattle.listing.proofs.item.part_field.Goals as goal

pub returns-then-at-x : goal.returns-then-at-x
returns-then-at-x c = search part-names

pub returns-then-at-x-2 : goal.returns-then-at-x-2
returns-then-at-x-2 c = search part-names

pub returns-then-at-x-3 : goal.returns-then-at-x-3
returns-then-at-x-3 c = search part-names

pub returns : goal.returns
returns c = search part-names
