-- `Turn::of` meets its contract: nothing, and the field's size more or less. Assumes nothing.
use Rattle.turnover.proofs.Sums.{saying}
use Rattle.turnover.proofs.Turn.of.Goals as goal

pub returns-then-x : goal.returns-then-x
returns-then-x c = search saying

pub returns : goal.returns
returns c = search saying
