-- `not_due`: the whole line is found, with the cause of the line that was due. Assumes nothing.
use Rattle.found.proofs.Exits.{wholes}
use Rattle.found.proofs.not_due.Goals as goal

pub returns : goal.returns
returns c = search wholes
