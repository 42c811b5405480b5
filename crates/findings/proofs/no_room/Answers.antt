-- `no_room` names the findings needed, and nothing else.
use mathlib.Core.Path.{refl}
use Rattle.findings.specs.Lists.{needs_room}
use Rattle.findings.proofs.no_room.Goals as goal

pub returns : goal.returns
unfolding needs_room
returns c = refl
