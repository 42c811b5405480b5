-- `ends_short`: whether a message's parts are short and so is the name behind it, where longer ones are not cut. Assumes nothing.
use Rattle.base.proofs.Cases.{picks}
use Rattle.fault.proofs.texts.ends_short.Goals as goal

pub returns-then-y : goal.returns-then-y
returns-then-y c = search picks

pub returns-then-parts : goal.returns-then-parts
returns-then-parts c = search picks

pub returns-else-parts : goal.returns-else-parts
returns-else-parts c = search picks
