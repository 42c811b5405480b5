-- `priority_carried` answers as its definition does.
use Rattle.base.proofs.Cases.{picks}
use Rattle.paper.specs.BankField.{priority_carried}
use Rattle.bank.proofs.priority_carried.Goals as goal

pub returns-then-ranked : goal.returns-then-ranked
unfolding priority_carried
returns-then-ranked c = search picks depth 8

pub returns : goal.returns
unfolding priority_carried
returns c = search picks depth 8
