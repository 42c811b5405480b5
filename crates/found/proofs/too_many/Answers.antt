-- `too-many`: the whole line is found, with the limit that was reached. Assumes nothing.
use Rattle.found.proofs.Exits.{wholes}
use Rattle.found.proofs.too_many.Goals as goal

pub returns : goal.returns
returns c = search wholes
