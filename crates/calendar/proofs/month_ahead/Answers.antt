-- `month_ahead` is the same day of the next month, or that month's last. Assumes nothing.
use borrow.Author.Rules.{rules}
use Rattle.calendar.proofs.Month.{next-month, months-ahead}
use Rattle.calendar.proofs.month_ahead.Goals as goal

pub overflow_mul-result : goal.overflow_mul-result
overflow_mul-result c = search (months-ahead, rules)

pub overflow_add-result-then-m-eq12 : goal.overflow_add-result-then-m-eq12
overflow_add-result-then-m-eq12 c = search (months-ahead, rules)

pub overflow_add-result-then-m-eq12-2 : goal.overflow_add-result-then-m-eq12-2
overflow_add-result-then-m-eq12-2 c = search (months-ahead, rules)

pub returns-then-m-eq12 : goal.returns-then-m-eq12
returns-then-m-eq12 c = search months-ahead

pub month_days-days-requires : goal.month_days-days-requires
month_days-days-requires c = next-month c.args.d c.requires c.if-m-eq12.false

pub overflow_add-month-2 : goal.overflow_add-month-2
overflow_add-month-2 c = search (months-ahead, rules)

pub overflow_add-result-then-days-n : goal.overflow_add-result-then-days-n
overflow_add-result-then-days-n c = search (months-ahead, rules)

pub returns-then-days-n : goal.returns-then-days-n
returns-then-days-n c = search months-ahead

pub overflow_add-result-2 : goal.overflow_add-result-2
overflow_add-result-2 c = search (months-ahead, rules)

pub returns : goal.returns
returns c = search months-ahead
