-- `plussed` gives the kind of a line with a plus second. Assumes nothing.
use Rattle.base.specs.Pick.{pick}
use Rattle.scan.proofs.kind.Starts.{by_plus, kinds}
use Rattle.scan.proofs.kind.plussed.Goals as goal

pub returns-in-51 : goal.returns-in-51
unfolding by_plus pick
returns-in-51 c = search kinds

pub returns-in-53 : goal.returns-in-53
unfolding by_plus pick
returns-in-53 c = search kinds

pub returns-in_default : goal.returns-in_default
unfolding by_plus pick
returns-in_default c = search kinds
