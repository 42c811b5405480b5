-- `put_spelled` puts how a field is spelled.
use Rattle.sentences.specs.Allowed.{spelled_as}
use Rattle.sentences.proofs.Parts.{by_number}
use Rattle.sentences.proofs.spelled.put_spelled.Goals as goal

pub returns-in-6 : goal.returns-in-6
unfolding spelled_as
returns-in-6 c = search by_number depth 12

pub returns-in-20 : goal.returns-in-20
unfolding spelled_as
returns-in-20 c = search by_number depth 12

pub returns-in-21 : goal.returns-in-21
unfolding spelled_as
returns-in-21 c = search by_number depth 12

pub returns-in-22 : goal.returns-in-22
unfolding spelled_as
returns-in-22 c = search by_number depth 12

pub returns-in-30 : goal.returns-in-30
unfolding spelled_as
returns-in-30 c = search by_number depth 12

pub returns-in-31 : goal.returns-in-31
unfolding spelled_as
returns-in-31 c = search by_number depth 12

pub returns-in-32 : goal.returns-in-32
unfolding spelled_as
returns-in-32 c = search by_number depth 12

pub returns-in-35 : goal.returns-in-35
unfolding spelled_as
returns-in-35 c = search by_number depth 12

pub returns-in-36 : goal.returns-in-36
unfolding spelled_as
returns-in-36 c = search by_number depth 12

pub returns-in_default : goal.returns-in_default
unfolding spelled_as
returns-in_default c = search by_number depth 12
