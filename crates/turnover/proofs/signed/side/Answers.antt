-- `side` meets its contract: four sizes of fourteen digits fit a word. Assumes nothing.
use Rattle.std.proofs.Common.{arith}
use Rattle.gpc.specs.Signed.{side}
use Rattle.turnover.proofs.signed.side.Goals as goal

pub returns : goal.returns
unfolding side
returns c = omega arith
