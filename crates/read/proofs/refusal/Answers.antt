-- `refusal` names its number, line and byte, and nothing else.
use Rattle.paper.specs.Reading.{refused_at}
use Rattle.read.proofs.refusal.Goals as goal

pub returns : goal.returns
unfolding refused_at
returns c = rw c.number.ensures
