-- `spaced` gives the kind of a line with a space second. Assumes nothing.
use Rattle.base.specs.Pick.{pick}
use Rattle.scan.proofs.kind.Starts.{by_space, kinds}
use Rattle.scan.proofs.kind.spaced.Goals as goal

pub returns-in-49 : goal.returns-in-49
unfolding by_space pick
returns-in-49 c = search kinds

pub returns-in-50 : goal.returns-in-50
unfolding by_space pick
returns-in-50 c = search kinds

pub returns-in-51 : goal.returns-in-51
unfolding by_space pick
returns-in-51 c = search kinds

pub returns-in-53 : goal.returns-in-53
unfolding by_space pick
returns-in-53 c = search kinds

pub returns-in_default : goal.returns-in_default
unfolding by_space pick
returns-in_default c = search kinds
