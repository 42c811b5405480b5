-- `sum_run` meets its contract. The loop's invariant: what is left of the run, read on from the number so far, says what the whole run
-- says, and the sum is that of the number so far. Assumes nothing.
use borrow.Author.Rules.{rules}
use Rattle.numeral.proofs.field.Turns.{turns}
use Rattle.account.proofs.at.Doubling.{sums}
use Rattle.account.proofs.at.sum_run.Goals as goal

pub loop-end-init : goal.loop-end-init
loop-end-init c = search (turns, sums, rules)

pub bounds-s-end : goal.bounds-s-end
bounds-s-end c = search (turns, sums, rules)

pub returns-then-d-gt9 : goal.returns-then-d-gt9
returns-then-d-gt9 c = search (turns, sums)

pub overflow_mul-value : goal.overflow_mul-value
overflow_mul-value c = search (turns, sums, rules)

pub overflow_add-value : goal.overflow_add-value
overflow_add-value c = search (turns, sums, rules)

pub next_digit-sum-requires : goal.next_digit-sum-requires
next_digit-sum-requires c = search (turns, sums, rules)

pub loop-end-preserved : goal.loop-end-preserved
loop-end-preserved c = search (turns, sums, rules)

pub returns : goal.returns
returns c = search (turns, sums)
