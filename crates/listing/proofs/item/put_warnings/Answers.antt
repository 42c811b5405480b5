-- `put_warnings` puts the digit and then the texts.
use borrow.Author.Rules.{rules}
use Rattle.listing.proofs.item.Found.{bank-read}
use Rattle.listing.proofs.item.Puts.{warnings-put}
use Rattle.listing.proofs.item.put_warnings.Goals as goal

pub put_priority-d-requires : goal.put_priority-d-requires
put_priority-d-requires c = search (bank-read, rules)

pub returns : goal.returns
returns c = search (warnings-put, rules) depth 8
