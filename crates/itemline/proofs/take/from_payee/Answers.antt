-- `from_payee`: the payee, and what follows it. Assumes nothing.
use borrow.Author.Rules.{rules}
use Rattle.itemline.specs.Walk.{from_payee}
use Rattle.itemline.proofs.take.Stages.{stages}
use Rattle.itemline.proofs.take.from_payee.Goals as goal

pub take_account-payee-requires : goal.take_account-payee-requires
unfolding from_payee
take_account-payee-requires c = search (stages, rules)

pub overflow_add-payee : goal.overflow_add-payee
unfolding from_payee
overflow_add-payee c = search (stages, rules)

pub from_amount-requires : goal.from_amount-requires
unfolding from_payee
from_amount-requires c = search (stages, rules)

pub returns : goal.returns
unfolding from_payee
returns c = search (stages, rules)
