-- `other_day` meets its contract: a line too short, a date that cannot be read, one that is compared, and a malformed register. Assumes nothing.
use Rattle.registered.proofs.Dates.{dates}
use Rattle.registered.proofs.other_day.Goals as goal

pub returns-then-s-lt10 : goal.returns-then-s-lt10
returns-then-s-lt10 c = search dates

pub returns-then-not-reg : goal.returns-then-not-reg
returns-then-not-reg c = search dates

pub returns-else-not-reg : goal.returns-else-not-reg
returns-else-not-reg c = search dates

pub returns-in-Err : goal.returns-in-Err
returns-in-Err c = search dates
