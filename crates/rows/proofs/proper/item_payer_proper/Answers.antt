-- `item_payer_proper` meets its contract: each way out is one case of the definition. Assumes nothing.
use Rattle.base.proofs.Cases.{picks}
use Rattle.paper.specs.Proper.{item_payer_proper}
use Rattle.rows.proofs.proper.item_payer_proper.Goals as goal

pub returns-then-single : goal.returns-then-single
unfolding item_payer_proper
returns-then-single c = search picks

pub returns : goal.returns
unfolding item_payer_proper
returns c = search picks
