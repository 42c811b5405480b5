-- `part_length` is how long a part stands in the line.
use borrow.Author.Rules.{rules}
use Rattle.listing.proofs.item.Places.{part-sizes}
use Rattle.listing.proofs.item.part_length.Goals as goal

pub slice_bounds-find_byte-end : goal.slice_bounds-find_byte-end
slice_bounds-find_byte-end c = search (part-sizes, rules)

pub returns : goal.returns
returns c = search (part-sizes, rules)
