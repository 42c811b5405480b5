-- `item_amount` meets its contract. Assumes nothing.
use borrow.Author.Rules.{rules}
use Rattle.itemline.proofs.take.Fields.{limits}
use Rattle.itemline.proofs.take.item_amount.Goals as goal

pub take_amount-requires : goal.take_amount-requires
take_amount-requires c = search (limits, rules)

pub returns : goal.returns
returns c = search (limits, rules)
