-- `read_day` reads a date in the forms that a sheet takes.
use Rattle.calendar.proofs.Reading.{reading}
use Rattle.calendar.proofs.read_day.Goals as goal

pub returns-then-f-eq8 : goal.returns-then-f-eq8
returns-then-f-eq8 c = search reading

pub returns-then-long : goal.returns-then-long
returns-then-long c = search reading

pub returns : goal.returns
returns c = search reading
