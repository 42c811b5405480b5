-- `with_date` meets its contract: the date in either form. Assumes nothing.
use borrow.Author.Rules.{rules}
use Rattle.groupline.proofs.take.Dates.{dates}
use Rattle.groupline.proofs.take.with_date.Goals as goal

pub overflow_sub-n : goal.overflow_sub-n
overflow_sub-n c = search (dates, rules)

pub bounds-s-n : goal.bounds-s-n
bounds-s-n c = search (dates, rules)

pub overflow_sub-n-then-s-n-eq32 : goal.overflow_sub-n-then-s-n-eq32
overflow_sub-n-then-s-n-eq32 c = search (dates, rules)

pub short_day-requires : goal.short_day-requires
short_day-requires c = search (dates, rules)

pub returns-then-s-n-eq32 : goal.returns-then-s-n-eq32
returns-then-s-n-eq32 c = search dates

pub overflow_sub-n-2 : goal.overflow_sub-n-2
overflow_sub-n-2 c = search (dates, rules)

pub long_day-requires : goal.long_day-requires
long_day-requires c = search (dates, rules)

pub returns : goal.returns
returns c = search dates
