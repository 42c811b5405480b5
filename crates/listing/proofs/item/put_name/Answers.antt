-- `put_name` puts a name that is cut.
use borrow.Author.Rules.{rules}
use Rattle.listing.proofs.item.Puts.{names}
use Rattle.listing.proofs.item.put_name.Goals as goal

pub returns-then-p-lt35 : goal.returns-then-p-lt35
returns-then-p-lt35 c = search (names, rules)

pub returns : goal.returns
returns c = search (names, rules)
