-- `real_day` tells the real days.
use Rattle.calendar.proofs.Real.{real-steps}
use Rattle.paper.specs.Days.{real_day}
use Rattle.calendar.proofs.real_day.Goals as goal

pub returns-then-y-lt2000 : goal.returns-then-y-lt2000
unfolding real_day
returns-then-y-lt2000 c = search real-steps depth 10

pub returns-then-y-gt2099 : goal.returns-then-y-gt2099
unfolding real_day
returns-then-y-gt2099 c = search real-steps depth 10

pub returns-then-m-lt1 : goal.returns-then-m-lt1
unfolding real_day
returns-then-m-lt1 c = search real-steps depth 10

pub returns-then-m-gt12 : goal.returns-then-m-gt12
unfolding real_day
returns-then-m-gt12 c = search real-steps depth 10

pub returns-then-n-lt1 : goal.returns-then-n-lt1
unfolding real_day
returns-then-n-lt1 c = search real-steps depth 10

pub returns : goal.returns
unfolding real_day
returns c = search real-steps depth 10
