-- `put_cut` puts what is longer than 35 bytes.
use borrow.Author.Rules.{rules}
use Rattle.listing.specs.item.Found.{cut_warned}
use Rattle.listing.proofs.Putting.{putting}
use Rattle.listing.proofs.item.put_cut.Goals as goal

pub returns-then-n-gt35 : goal.returns-then-n-gt35
unfolding cut_warned
returns-then-n-gt35 c = search (putting, rules) depth 6

pub returns : goal.returns
unfolding cut_warned
returns c = search (putting, rules) depth 6
