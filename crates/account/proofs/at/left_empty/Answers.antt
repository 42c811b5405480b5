-- `left_empty` meets its contract: whether a field ends at once is asked only where it matters. Assumes nothing.
use Rattle.base.proofs.Cases.{picks}
use Rattle.account.proofs.at.left_empty.Goals as goal

pub returns-then-empty : goal.returns-then-empty
returns-then-empty c = search picks

pub returns : goal.returns
returns c = search picks
