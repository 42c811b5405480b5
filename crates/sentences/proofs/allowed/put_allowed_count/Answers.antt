-- `put_allowed_count` puts how many were allowed.
use Rattle.sentences.specs.Allowed.{allowed_count}
use Rattle.sentences.proofs.Parts.{by_number}
use Rattle.sentences.proofs.allowed.put_allowed_count.Goals as goal

pub returns-in-141 : goal.returns-in-141
unfolding allowed_count
returns-in-141 c = search by_number depth 8

pub returns-in-142 : goal.returns-in-142
unfolding allowed_count
returns-in-142 c = search by_number depth 8

pub returns-in-150 : goal.returns-in-150
unfolding allowed_count
returns-in-150 c = search by_number depth 8

pub returns-in-151 : goal.returns-in-151
unfolding allowed_count
returns-in-151 c = search by_number depth 8

pub returns-in-152 : goal.returns-in-152
unfolding allowed_count
returns-in-152 c = search by_number depth 8

pub returns-in_default : goal.returns-in_default
unfolding allowed_count
returns-in_default c = search by_number depth 8
