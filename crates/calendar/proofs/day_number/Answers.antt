-- `day_number` is the number of a day, in closed form.
use Rattle.calendar.proofs.Number.{numbers}
use Rattle.calendar.proofs.day_number.Goals as goal

pub overflow_sub-n : goal.overflow_sub-n
overflow_sub-n c = search numbers

pub overflow_sub-i : goal.overflow_sub-i
overflow_sub-i c = search numbers

pub overflow_add-days-3 : goal.overflow_add-days-3
overflow_add-days-3 c = search numbers

pub overflow_sub-days : goal.overflow_sub-days
overflow_sub-days c = search numbers

pub overflow_add-days-4 : goal.overflow_add-days-4
overflow_add-days-4 c = search numbers

pub returns-then-m-le2 : goal.returns-then-m-le2
returns-then-m-le2 c = search numbers

pub overflow_add-result : goal.overflow_add-result
overflow_add-result c = search numbers

pub returns-then-n-eq0 : goal.returns-then-n-eq0
returns-then-n-eq0 c = search numbers

pub returns : goal.returns
returns c = search numbers

pub bounds-i : goal.bounds-i
bounds-i c = search numbers
