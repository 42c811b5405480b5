-- `take_amount` meets its contract. Assumes nothing.
use borrow.Author.Rules.{rules}
use Rattle.amount.proofs.at.Taken.{amounts}
use Rattle.amount.proofs.at.take_amount.Goals as goal

pub take_run-first-requires : goal.take_run-first-requires
take_run-first-requires c = search (amounts, rules)

pub bounds-s-end : goal.bounds-s-end
bounds-s-end c = search (amounts, rules)

pub overflow_add-end : goal.overflow_add-end
overflow_add-end c = search (amounts, rules)

pub take_run-rest-requires : goal.take_run-rest-requires
take_run-rest-requires c = search (amounts, rules)

pub overflow_mul-result : goal.overflow_mul-result
overflow_mul-result c = search (amounts, rules)

pub overflow_add-result : goal.overflow_add-result
overflow_add-result c = search (amounts, rules)

pub returns-then-s-end-eq44 : goal.returns-then-s-end-eq44
returns-then-s-end-eq44 c = search (amounts)

pub returns : goal.returns
returns c = search (amounts)
