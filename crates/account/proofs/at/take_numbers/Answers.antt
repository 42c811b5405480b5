-- `take_numbers` meets its contract. Assumes nothing.
use borrow.Author.Rules.{rules}
use Rattle.account.proofs.at.Numbers.{numbers}
use Rattle.account.proofs.at.take_numbers.Goals as goal

pub take_run-first-requires : goal.take_run-first-requires
take_run-first-requires c = search (numbers, rules)

pub bounds-s-end : goal.bounds-s-end
bounds-s-end c = search (numbers, rules)

pub overflow_add-end : goal.overflow_add-end
overflow_add-end c = search (numbers, rules)

pub take_run-base-requires : goal.take_run-base-requires
take_run-base-requires c = search (numbers, rules)

pub returns-then-s-end-eq45 : goal.returns-then-s-end-eq45
returns-then-s-end-eq45 c = search (numbers)

pub returns-then-v-lt10000000000 : goal.returns-then-v-lt10000000000
returns-then-v-lt10000000000 c = search (numbers)

pub returns : goal.returns
returns c = search (numbers)
