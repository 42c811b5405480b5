-- `put_allowed_day` puts which days were allowed.
use Rattle.sentences.specs.Allowed.{allowed_day}
use Rattle.sentences.proofs.Parts.{by_number}
use Rattle.sentences.proofs.allowed.put_allowed_day.Goals as goal

pub returns-in-111 : goal.returns-in-111
unfolding allowed_day
returns-in-111 c = search by_number depth 8

pub returns-in-112 : goal.returns-in-112
unfolding allowed_day
returns-in-112 c = search by_number depth 8

pub returns-in-113 : goal.returns-in-113
unfolding allowed_day
returns-in-113 c = search by_number depth 8

pub returns-in-114 : goal.returns-in-114
unfolding allowed_day
returns-in-114 c = search by_number depth 8

pub returns-in_default : goal.returns-in_default
unfolding allowed_day
returns-in_default c = search by_number depth 8
