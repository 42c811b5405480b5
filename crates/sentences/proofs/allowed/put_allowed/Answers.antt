-- `put_allowed` puts what was allowed.
use Rattle.sentences.specs.Allowed.{allowed}
use Rattle.sentences.proofs.Parts.{by_number}
use Rattle.sentences.proofs.allowed.put_allowed.Goals as goal

pub returns-in-40 : goal.returns-in-40
unfolding allowed
returns-in-40 c = search by_number

pub returns-in-41 : goal.returns-in-41
unfolding allowed
returns-in-41 c = search by_number

pub returns-in-43 : goal.returns-in-43
unfolding allowed
returns-in-43 c = search by_number

pub returns-in_default : goal.returns-in_default
unfolding allowed
returns-in_default c = search by_number
