-- `payer_proper` meets its contract: each way out is one case of the definition. Assumes nothing.
use Rattle.base.proofs.Cases.{picks}
use Rattle.paper.specs.Proper.{payer_proper}
use Rattle.rows.proofs.proper.payer_proper.Goals as goal

pub returns-then-is_nobody : goal.returns-then-is_nobody
unfolding payer_proper
returns-then-is_nobody c = search picks

pub returns : goal.returns
unfolding payer_proper
returns c = search picks
