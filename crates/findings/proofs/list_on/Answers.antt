-- `list_on` tests the day, and then the file.
use borrow.Author.Rules.{rules}
use Rattle.findings.proofs.Exits.{on-days}
use Rattle.findings.proofs.list_on.Goals as goal

pub real_day-requires : goal.real_day-requires
real_day-requires c = search (on-days, rules)

pub list_that_day-requires : goal.list_that_day-requires
list_that_day-requires c = search (on-days, rules)

pub returns-then-real_day : goal.returns-then-real_day
returns-then-real_day c = search (on-days, rules)

pub no_list-requires : goal.no_list-requires
no_list-requires c = search (on-days, rules)

pub returns : goal.returns
returns c = search (on-days, rules)
