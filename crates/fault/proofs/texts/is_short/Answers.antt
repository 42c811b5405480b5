-- `is_short`: whether n bytes are no more than `most`, where longer ones are not cut. Assumes nothing.
use Rattle.base.proofs.Cases.{picks}
use Rattle.fault.proofs.texts.is_short.Goals as goal

pub returns-then-y : goal.returns-then-y
returns-then-y c = search picks

pub returns-else-y : goal.returns-else-y
returns-else-y c = search picks
