-- `last_day`: how many days ahead at most, or any. Assumes nothing.
use Rattle.base.proofs.Cases.{picks}
use Rattle.fault.proofs.due.last_day.Goals as goal

pub returns-then-ahead-lt36525 : goal.returns-then-ahead-lt36525
returns-then-ahead-lt36525 c = search picks

pub returns : goal.returns
returns c = search picks
