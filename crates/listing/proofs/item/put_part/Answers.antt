-- `put_part` puts a part that is cut.
use borrow.Author.Rules.{rules}
use Rattle.listing.proofs.item.Puts.{parts}
use Rattle.listing.proofs.item.put_part.Goals as goal

pub returns-then-p-lt35 : goal.returns-then-p-lt35
returns-then-p-lt35 c = search (parts, rules)

pub returns : goal.returns
returns c = search (parts, rules)
