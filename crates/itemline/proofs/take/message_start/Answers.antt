-- `message_start` meets its contract. Assumes nothing.
use Rattle.base.proofs.Cases.{picks}
use Rattle.itemline.proofs.take.message_start.Goals as goal

pub returns-then-av : goal.returns-then-av
returns-then-av c = search picks

pub returns : goal.returns
returns c = search picks
