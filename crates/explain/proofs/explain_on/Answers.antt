-- `explain_on` tests the day, and then the file.
use borrow.Author.Rules.{rules}
use Rattle.explain.proofs.Exits.{on-days}
use Rattle.explain.proofs.explain_on.Goals as goal

pub real_day-requires : goal.real_day-requires
real_day-requires c = search (on-days, rules)

pub explain_that_day-requires : goal.explain_that_day-requires
explain_that_day-requires c = search (on-days, rules)

pub returns-then-real_day : goal.returns-then-real_day
returns-then-real_day c = search (on-days, rules)

pub no_text-requires : goal.no_text-requires
no_text-requires c = search (on-days, rules)

pub returns : goal.returns
returns c = search (on-days, rules)
