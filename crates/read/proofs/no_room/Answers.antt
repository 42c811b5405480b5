-- `no_room` names the rows needed, and nothing else.
use Rattle.paper.specs.Reading.{needs}
use Rattle.read.proofs.no_room.Goals as goal

pub returns : goal.returns
unfolding needs
returns c = rw c.number.ensures
