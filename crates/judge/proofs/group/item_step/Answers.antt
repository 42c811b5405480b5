-- `item_step`: a line of an open group by its kind. Assumes nothing.
use Rattle.judge.proofs.group.Turns.{turns}
use Rattle.judge.proofs.group.item_step.Goals as goal

pub returns-in_default : goal.returns-in_default
returns-in_default c = search turns
