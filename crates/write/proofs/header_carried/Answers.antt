-- `header_carried` tells what K asks of the interval.
use Rattle.write.proofs.Exits.{interval}
use Rattle.write.proofs.header_carried.Goals as goal

pub returns-then-not-sh : goal.returns-then-not-sh
returns-then-not-sh c = search interval

pub returns-then-to-from : goal.returns-then-to-from
returns-then-to-from c = search interval

pub returns-else-to-from : goal.returns-else-to-from
returns-else-to-from c = search interval

pub returns-else-sh : goal.returns-else-sh
returns-else-sh c = search interval
