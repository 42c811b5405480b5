-- `Signed::under` meets its contract, by the sign. Assumes nothing.
use Rattle.std.proofs.Common.{arith}
use Rattle.gpc.specs.Signed.{below}
use Rattle.base.proofs.Cases.{picks}
use Rattle.turnover.proofs.signed.Signed.under.Goals as goal

pub returns-then-self : goal.returns-then-self
unfolding below
returns-then-self c = (search picks, omega arith)

pub returns : goal.returns
unfolding below
returns c = (search picks, omega arith)
