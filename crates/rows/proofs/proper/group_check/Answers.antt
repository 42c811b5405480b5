-- `group_check` meets its contract: the fields in their order. Assumes nothing.
use Rattle.rows.proofs.read.Fields.{fields}
use Rattle.rows.proofs.proper.group_check.Goals as goal

pub returns-then-not-real_day : goal.returns-then-not-real_day
returns-then-not-real_day c k rest = search fields depth 14

pub returns-then-not-payer_proper : goal.returns-then-not-payer_proper
returns-then-not-payer_proper c k rest = search fields depth 14

pub returns : goal.returns
returns c k rest = search fields depth 14
