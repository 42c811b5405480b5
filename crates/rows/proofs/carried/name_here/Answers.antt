-- `name_here` meets its contract: the part that was tested is the text. Assumes nothing.
use Rattle.rows.proofs.carried.Steps.{texts}
use Rattle.rows.proofs.carried.name_here.Goals as goal

pub returns : goal.returns
returns c = search texts
