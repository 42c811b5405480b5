-- `only_real` refuses what is no day by 11.
use Rattle.paper.specs.Days.{real}
use Rattle.calendar.proofs.Reading.{reading}
use Rattle.calendar.proofs.only_real.Goals as goal

pub returns-then-real_day : goal.returns-then-real_day
unfolding real
returns-then-real_day c = search reading

pub returns : goal.returns
unfolding real
returns c = search reading
