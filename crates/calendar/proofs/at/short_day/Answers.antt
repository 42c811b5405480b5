-- `short_day` meets its contract: its digits two by two. Assumes nothing.
use borrow.Author.Rules.{rules}
use Rattle.calendar.proofs.at.Taken.{shorts}
use Rattle.calendar.proofs.at.short_day.Goals as goal

pub two-day-requires : goal.two-day-requires
two-day-requires c = search (shorts, rules)

pub overflow_add-at : goal.overflow_add-at
overflow_add-at c = search (shorts, rules)

pub two-month-requires : goal.two-month-requires
two-month-requires c = search (shorts, rules)

pub overflow_add-at-2 : goal.overflow_add-at-2
overflow_add-at-2 c = search (shorts, rules)

pub two-year-requires : goal.two-year-requires
two-year-requires c = search (shorts, rules)

pub overflow_add-result : goal.overflow_add-result
overflow_add-result c = search (shorts, rules)

pub overflow_mul-result : goal.overflow_mul-result
overflow_mul-result c = search (shorts, rules)

pub overflow_mul-result-2 : goal.overflow_mul-result-2
overflow_mul-result-2 c = search (shorts, rules)

pub overflow_add-result-2 : goal.overflow_add-result-2
overflow_add-result-2 c = search (shorts, rules)

pub overflow_add-result-3 : goal.overflow_add-result-3
overflow_add-result-3 c = search (shorts, rules)

pub returns : goal.returns
returns c = search shorts
