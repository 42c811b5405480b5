-- `Turns::with` meets its contract: one movement more in both turnovers. Assumes nothing.
use Rattle.turnover.proofs.Sums.{counting}
use Rattle.turnover.proofs.Turns.with.Goals as goal

pub returns : goal.returns
returns c = search counting
