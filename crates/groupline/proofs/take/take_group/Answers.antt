-- `take_group` meets its contract: the payer where there is one, and what follows. Assumes nothing.
use borrow.Author.Rules.{rules}
use Rattle.groupline.proofs.take.Groups.{groups}
use Rattle.groupline.proofs.take.take_group.Goals as goal

pub take_payer-payer-requires : goal.take_payer-payer-requires
take_payer-payer-requires c = search (groups, rules)

pub overflow_add-payer : goal.overflow_add-payer
overflow_add-payer c = search (groups, rules)

pub with_date-requires : goal.with_date-requires
with_date-requires c = search (groups, rules)

pub returns-then-has_payer : goal.returns-then-has_payer
returns-then-has_payer c = search groups

pub with_date-requires-2 : goal.with_date-requires-2
with_date-requires-2 c = search (groups, rules)

pub returns : goal.returns
returns c = search groups
