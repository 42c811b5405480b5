-- `last_day` meets its contract: day, month and year, two digits each. Assumes nothing.
use Rattle.calendar.proofs.at.Exits.{spelling}
use Rattle.calendar.proofs.at.last_day.Goals as goal

pub returns-then-day-gt99 : goal.returns-then-day-gt99
returns-then-day-gt99 c = search spelling

pub returns-then-month-gt99 : goal.returns-then-month-gt99
returns-then-month-gt99 c = search spelling

pub returns-then-year-gt99 : goal.returns-then-year-gt99
returns-then-year-gt99 c = search spelling

pub returns : goal.returns
returns c = search spelling
