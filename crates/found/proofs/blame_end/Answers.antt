-- `blame_end`: the cause of the line that was due, at the file's end. Assumes nothing.
use Rattle.found.proofs.Exits.{at-end}
use Rattle.found.proofs.blame_end.Goals as goal

pub returns : goal.returns
returns c = search at-end
