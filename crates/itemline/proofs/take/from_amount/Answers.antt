-- `from_amount`: the amount, and what follows it. Assumes nothing.
use borrow.Author.Rules.{rules}
use Rattle.itemline.specs.Walk.{from_amount}
use Rattle.itemline.proofs.take.Stages.{stages}
use Rattle.itemline.proofs.take.Fields.{amount-low}
use Rattle.itemline.proofs.take.from_amount.Goals as goal

pub item_amount-amount-requires : goal.item_amount-amount-requires
unfolding from_amount
item_amount-amount-requires c = search (stages, rules)

pub overflow_add-amount : goal.overflow_add-amount
unfolding from_amount
overflow_add-amount c = search (stages, rules)

pub from_variable-requires : goal.from_variable-requires
unfolding from_amount
from_variable-requires c = search (stages, amount-low, rules)

pub returns : goal.returns
unfolding from_amount
returns c = search (stages, rules)
