-- `text::span::place` meets its contract. Assumes nothing.
use Rattle.base.proofs.Cases.{picks}
use Rattle.text.specs.span.Places.{placed}
use Rattle.text.proofs.span.place.Goals as goal

pub returns-then-len-eq0 : goal.returns-then-len-eq0
unfolding placed
returns-then-len-eq0 c = search (picks)

pub returns-then-len-gt35 : goal.returns-then-len-gt35
unfolding placed
returns-then-len-gt35 c = search (picks)

pub returns : goal.returns
unfolding placed
returns c = search (picks)
