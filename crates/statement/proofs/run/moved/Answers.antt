-- `moved`: one movement more at the end of those so far. Assumes nothing.
use Rattle.statement.proofs.run.Stages.{moving}
use Rattle.statement.proofs.run.moved.Goals as goal

pub returns : goal.returns
returns c = search moving
