-- `walk_first`: `UHL1` and its fields, of a line that begins so; where the sheet reads none (C), anything. Assumes nothing.
use Rattle.fault.proofs.first.Places.{firsts}
use Rattle.fault.proofs.first.walk_first.Goals as goal

pub returns-then-sh : goal.returns-then-sh
returns-then-sh c = search firsts

pub returns : goal.returns
returns c = search firsts
