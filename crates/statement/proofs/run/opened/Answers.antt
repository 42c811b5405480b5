-- `opened`: a head is read, and no movement yet. Assumes nothing.
use Rattle.statement.proofs.run.Stages.{opening}
use Rattle.statement.proofs.run.opened.Goals as goal

pub returns : goal.returns
returns c = search opening
