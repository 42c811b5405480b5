-- `Turn::is` answers as its definition does: both words are equal, or one is not. Assumes nothing.
use Rattle.turnover.proofs.Sums.{both-tested}
use Rattle.turnover.proofs.Turn.is.Goals as goal

pub returns : goal.returns
returns c = λ u d h. rw c.eq.ensures (both-tested _ _ _ c.of.ensures u d h)
