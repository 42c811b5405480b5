-- `balanced` answers as its definition does. Assumes nothing.
use Rattle.turnover.proofs.signed.Signs.{both-sides}
use Rattle.turnover.proofs.signed.balanced.Goals as goal

pub returns : goal.returns
returns c = search both-sides
