-- `Signed::over` meets its contract, by the sign. Assumes nothing.
use Rattle.std.proofs.Common.{arith}
use Rattle.gpc.specs.Signed.{above}
use Rattle.base.proofs.Cases.{picks}
use Rattle.turnover.proofs.signed.Signed.over.Goals as goal

pub returns-then-self : goal.returns-then-self
unfolding above
returns-then-self c = (search picks, omega arith)

pub returns : goal.returns
unfolding above
returns c = (search picks, omega arith)
