-- `ends_mark` meets its contract. Assumes nothing.
use Rattle.base.proofs.Cases.{picks}
use Rattle.text.proofs.division.ends_mark.Goals as goal

pub returns-then-e-from-ge3 : goal.returns-then-e-from-ge3
returns-then-e-from-ge3 c = search picks

pub returns : goal.returns
returns c = search picks
