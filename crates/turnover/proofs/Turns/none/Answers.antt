-- `Turns::none` meets its contract: no movement adds up to nothing. Assumes nothing.
use Rattle.turnover.proofs.Sums.{counting}
use Rattle.turnover.proofs.Turns.none.Goals as goal

pub returns : goal.returns
returns c = search counting
