-- `from_variable`: the variable symbol, and what follows it. Assumes nothing.
use borrow.Author.Rules.{rules}
use Rattle.itemline.specs.Walk.{from_variable}
use Rattle.itemline.proofs.take.Stages.{stages}
use Rattle.itemline.proofs.take.from_variable.Goals as goal

pub take_symbol-variable-requires : goal.take_symbol-variable-requires
unfolding from_variable
take_symbol-variable-requires c = search (stages, rules)

pub overflow_add-variable : goal.overflow_add-variable
unfolding from_variable
overflow_add-variable c = search (stages, rules)

pub from_bank-requires : goal.from_bank-requires
unfolding from_variable
from_bank-requires c = search (stages, rules)

pub returns : goal.returns
unfolding from_variable
returns c = search (stages, rules)
