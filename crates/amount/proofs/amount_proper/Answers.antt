-- `amount_proper` answers as its definition does.
use Rattle.base.proofs.Cases.{picks}
use Rattle.paper.specs.Amounts.{amount_proper}
use Rattle.amount.proofs.amount_proper.Goals as goal

pub returns-then-v-lt1 : goal.returns-then-v-lt1
unfolding amount_proper
returns-then-v-lt1 c = search picks depth 8

pub returns : goal.returns
unfolding amount_proper
returns c = search picks depth 8
