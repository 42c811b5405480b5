-- `bank_proper` answers as its definition does.
use Rattle.base.proofs.Cases.{picks}
use Rattle.paper.specs.BankField.{bank_proper}
use Rattle.bank.proofs.bank_proper.Goals as goal

pub returns-then-b-lt1 : goal.returns-then-b-lt1
unfolding bank_proper
returns-then-b-lt1 c = search picks depth 8

pub returns : goal.returns
unfolding bank_proper
returns c = search picks depth 8
