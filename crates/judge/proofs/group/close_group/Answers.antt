-- `close_group`: 10 at the total, or a group more. Assumes nothing.
use borrow.Author.Rules.{rules}
use Rattle.judge.proofs.group.Turns.{places, ends}
use Rattle.judge.proofs.group.close_group.Goals as goal

pub returns-then-total_broken : goal.returns-then-total_broken
returns-then-total_broken c = search ends

pub overflow_add-warnings : goal.overflow_add-warnings
overflow_add-warnings c = search (places, rules)

pub returns : goal.returns
returns c = search ends
