-- `put_warned` puts what is warned of.
use Rattle.sentences.specs.Sentences.{warning}
use Rattle.sentences.proofs.Parts.{by_number}
use Rattle.sentences.proofs.put_warned.Goals as goal

pub returns-in-1010 : goal.returns-in-1010
unfolding warning
returns-in-1010 c = search by_number depth 6

pub returns-in-1011 : goal.returns-in-1011
unfolding warning
returns-in-1011 c = search by_number depth 6

pub returns-in-1014 : goal.returns-in-1014
unfolding warning
returns-in-1014 c = search by_number depth 6

pub returns-in_default : goal.returns-in_default
unfolding warning
returns-in_default c = search by_number depth 6
