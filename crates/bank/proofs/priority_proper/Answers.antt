-- `priority_proper` answers as its definition does.
use Rattle.base.proofs.Cases.{picks}
use Rattle.paper.specs.BankField.{priority_proper}
use Rattle.bank.proofs.priority_proper.Goals as goal

pub returns-then-p-lt3 : goal.returns-then-p-lt3
unfolding priority_proper
returns-then-p-lt3 c = search picks depth 8

pub returns : goal.returns
unfolding priority_proper
returns c = search picks depth 8
