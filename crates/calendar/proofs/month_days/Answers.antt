-- `month_days` is the length of a month.
use Rattle.calendar.proofs.Real.{real-steps}
use Rattle.paper.specs.Days.{month_days}
use Rattle.calendar.proofs.month_days.Goals as goal

pub returns-then-y-eq0 : goal.returns-then-y-eq0
unfolding month_days
returns-then-y-eq0 c = search real-steps

pub returns-then-m-eq2 : goal.returns-then-m-eq2
unfolding month_days
returns-then-m-eq2 c = search real-steps

pub returns : goal.returns
unfolding month_days
returns c = search real-steps
