-- `kind_of` gives the kind of a line. Assumes nothing.
use Rattle.scan.proofs.kind.Starts.{kinds}
use Rattle.scan.proofs.kind.kind_of.Goals as goal

pub returns-then-s-lt2 : goal.returns-then-s-lt2
returns-then-s-lt2 c = search kinds

pub returns-then-b-gt43 : goal.returns-then-b-gt43
returns-then-b-gt43 c = search kinds

pub returns : goal.returns
returns c = search kinds
