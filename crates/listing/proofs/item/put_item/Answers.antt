-- `put_item` puts what the line in the file warns of.
use borrow.Author.Rules.{rules}
use Rattle.listing.proofs.item.Puts.{line-room}
use Rattle.listing.proofs.item.put_item.Goals as goal

pub put_warnings-requires : goal.put_warnings-requires
put_warnings-requires c = search (line-room, rules)
