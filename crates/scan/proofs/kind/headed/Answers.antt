-- `headed` gives the kind of a line with an H second. Assumes nothing.
use Rattle.base.proofs.Cases.{picks}
use Rattle.scan.proofs.kind.Starts.{by_head, kinds}
use Rattle.scan.proofs.kind.headed.Goals as goal

pub returns-then-s-lt4 : goal.returns-then-s-lt4
unfolding by_head
returns-then-s-lt4 c = search (kinds, picks)

pub returns-then-s-eq49 : goal.returns-then-s-eq49
unfolding by_head
returns-then-s-eq49 c = search (kinds, picks)

pub returns-else-s-eq49 : goal.returns-else-s-eq49
unfolding by_head
returns-else-s-eq49 c = search (kinds, picks)

pub returns-else-s-eq76 : goal.returns-else-s-eq76
unfolding by_head
returns-else-s-eq76 c = search (kinds, picks)

pub returns-else-s-eq85 : goal.returns-else-s-eq85
unfolding by_head
returns-else-s-eq85 c = search (kinds, picks)
