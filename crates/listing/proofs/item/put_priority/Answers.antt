-- `put_priority` puts the digit of the bank field. Assumes nothing.
use borrow.Author.Rules.{rules}
use Rattle.listing.proofs.item.Puts.{priorities}
use Rattle.listing.proofs.item.put_priority.Goals as goal

pub returns-in_default : goal.returns-in_default
returns-in_default c = search (priorities, rules)

pub overflow_sub-bank : goal.overflow_sub-bank
overflow_sub-bank c = search (priorities, rules)

pub returns : goal.returns
returns c = search (priorities, rules)
