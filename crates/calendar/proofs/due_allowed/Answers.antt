-- `due_allowed` tells the days of a sheet.
use borrow.Author.Rules.{rules}
use Rattle.calendar.proofs.Due.{dues}
use Rattle.calendar.proofs.due_allowed.Goals as goal

pub returns-then-d-today : goal.returns-then-d-today
returns-then-d-today c = search dues

pub returns-then-d-today-2 : goal.returns-then-d-today-2
returns-then-d-today-2 c = search dues

pub overflow_sub-result : goal.overflow_sub-result
overflow_sub-result c = search (dues, rules)

pub returns-then-here : goal.returns-then-here
returns-then-here c = search dues

pub returns : goal.returns
returns c = search dues
