-- `in_limit` meets its contract: the test of the limit. Assumes nothing.
use Rattle.numeral.proofs.field.Onward.{onwards}
use Rattle.amount.proofs.at.in_limit.Goals as goal

pub returns-then-amount_proper : goal.returns-then-amount_proper
returns-then-amount_proper c = search onwards

pub returns : goal.returns
returns c = search onwards
