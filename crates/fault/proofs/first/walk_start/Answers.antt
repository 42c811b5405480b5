-- `walk_start`: the interval's start and what follows it. Assumes nothing.
use Rattle.why.specs.Names.{field_number}
use Rattle.why.specs.Fields.{rules_of}
use Rattle.fault.proofs.first.Places.{starts}
use Rattle.fault.proofs.first.walk_start.Goals as goal

pub returns-then-n-lt43 : goal.returns-then-n-lt43
unfolding rules_of field_number
returns-then-n-lt43 c = search starts

pub returns : goal.returns
unfolding rules_of field_number
returns c = search starts

pub returns-in_default : goal.returns-in_default
unfolding rules_of field_number
returns-in_default c = search starts
