-- `walk_tail`: the tail: on S a space always, elsewhere it may be missing. Assumes nothing.
use Rattle.why.specs.Names.{field_number}
use Rattle.fault.proofs.item.Onward.{tails}
use Rattle.fault.proofs.item.walk_tail.Goals as goal

pub returns-then-at-s : goal.returns-then-at-s
unfolding field_number
returns-then-at-s c = search tails

pub returns-then-fixed : goal.returns-then-fixed
unfolding field_number
returns-then-fixed c = search tails

pub returns : goal.returns
unfolding field_number
returns c = search tails
