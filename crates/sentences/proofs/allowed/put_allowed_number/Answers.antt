-- `put_allowed_number` puts which numbers were allowed.
use Rattle.sentences.specs.Allowed.{allowed_number}
use Rattle.sentences.proofs.Parts.{by_number}
use Rattle.sentences.proofs.allowed.put_allowed_number.Goals as goal

pub returns-in-60 : goal.returns-in-60
unfolding allowed_number
returns-in-60 c = search by_number depth 12

pub returns-in-61 : goal.returns-in-61
unfolding allowed_number
returns-in-61 c = search by_number depth 12

pub returns-in-70 : goal.returns-in-70
unfolding allowed_number
returns-in-70 c = search by_number depth 12

pub returns-in-80 : goal.returns-in-80
unfolding allowed_number
returns-in-80 c = search by_number depth 12

pub returns-in-90 : goal.returns-in-90
unfolding allowed_number
returns-in-90 c = search by_number depth 12

pub returns-in-91 : goal.returns-in-91
unfolding allowed_number
returns-in-91 c = search by_number depth 12

pub returns-in-100 : goal.returns-in-100
unfolding allowed_number
returns-in-100 c = search by_number depth 12

pub returns-in-101 : goal.returns-in-101
unfolding allowed_number
returns-in-101 c = search by_number depth 12

pub returns-in_default : goal.returns-in_default
unfolding allowed_number
returns-in_default c = search by_number depth 12
