-- `long_day` meets its contract: its digits four by four. Assumes nothing.
use borrow.Author.Rules.{rules}
use Rattle.calendar.proofs.at.Taken.{longs}
use Rattle.calendar.proofs.at.long_day.Goals as goal

pub four-requires : goal.four-requires
four-requires c = search (longs, rules)

pub overflow_mul-result : goal.overflow_mul-result
overflow_mul-result c = search (longs, rules)

pub overflow_add-at : goal.overflow_add-at
overflow_add-at c = search (longs, rules)

pub four-requires-2 : goal.four-requires-2
four-requires-2 c = search (longs, rules)

pub overflow_add-result : goal.overflow_add-result
overflow_add-result c = search (longs, rules)

pub returns : goal.returns
returns c = search longs
