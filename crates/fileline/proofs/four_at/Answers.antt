-- `four_at` meets its contract: four digits and the end of their field, or what the reader of digits answers. Assumes nothing.
use borrow.Author.Rules.{rules}
use Rattle.fileline.proofs.Four.{fours}
use Rattle.fileline.proofs.four_at.Goals as goal

pub four-value-requires : goal.four-value-requires
four-value-requires c = search (fours, rules)

pub returns-then-four_digits : goal.returns-then-four_digits
returns-then-four_digits c = search (fours, rules)

pub returns : goal.returns
returns c = search (fours, rules)
