-- `money_check` meets its contract: the fields in their order. Assumes nothing.
use Rattle.rows.proofs.read.Fields.{fields}
use Rattle.rows.specs.proper.Stages.{money_proper}
use Rattle.rows.proofs.proper.money_check.Goals as goal

pub returns-then-not-item_payer_proper : goal.returns-then-not-item_payer_proper
unfolding money_proper
returns-then-not-item_payer_proper c k rest = search fields depth 14

pub returns-then-not-account_proper : goal.returns-then-not-account_proper
unfolding money_proper
returns-then-not-account_proper c k rest = search fields depth 14

pub returns-then-not-bank_proper : goal.returns-then-not-bank_proper
unfolding money_proper
returns-then-not-bank_proper c k rest = search fields depth 14

pub returns-then-not-amount_fits : goal.returns-then-not-amount_fits
unfolding money_proper
returns-then-not-amount_fits c k rest = search fields depth 14

pub returns : goal.returns
unfolding money_proper
returns c k rest = search fields depth 14
