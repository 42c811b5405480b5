-- `read_amount` answers as its definition does.
use Rattle.amount.proofs.at.Commas.{exits}
use Rattle.amount.proofs.at.read_amount.Goals as goal

pub returns-then-d-f : goal.returns-then-d-f
returns-then-d-f c = search exits

pub returns-then-may : goal.returns-then-may
returns-then-may c = search exits

pub returns : goal.returns
returns c = search exits
