-- `spelled_day`: the day that is spelled, real or not; 4 where it has not its form. Assumes nothing.
use borrow.Author.Rules.{rules}
use Rattle.fault.proofs.due.Days.{forms}
use Rattle.fault.proofs.due.spelled_day.Goals as goal

pub returns-then-f-eq8 : goal.returns-then-f-eq8
returns-then-f-eq8 c = search forms

pub short_day-requires : goal.short_day-requires
short_day-requires c = search (forms, rules)

pub short_day-requires-2 : goal.short_day-requires-2
short_day-requires-2 c = search (forms, rules)
