-- `collect_allowed` tells the days of a collection. Assumes nothing.
use Rattle.calendar.proofs.Month.{collections}
use Rattle.calendar.proofs.collect_allowed.Goals as goal

pub returns-then-d-today : goal.returns-then-d-today
returns-then-d-today c = search collections

pub returns-then-own : goal.returns-then-own
returns-then-own c = search collections

pub returns-then-d-today-2 : goal.returns-then-d-today-2
returns-then-d-today-2 c = search collections

pub returns : goal.returns
returns c = search collections
