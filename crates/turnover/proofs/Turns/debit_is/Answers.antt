-- `Turns::debit_is` answers as its definition does. Assumes nothing.
use Rattle.turnover.proofs.Sums.{counting}
use Rattle.turnover.proofs.Turns.debit_is.Goals as goal

pub returns : goal.returns
returns c = search counting
