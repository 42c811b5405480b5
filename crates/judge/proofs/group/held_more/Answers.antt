-- `held_more`: each number that grows stays small. Assumes nothing.
use borrow.Author.Rules.{rules}
use Rattle.judge.specs.group.Stands.{held_more}
use Rattle.judge.proofs.group.held_more.Goals as goal

pub overflow_add-items : goal.overflow_add-items
unfolding held_more
overflow_add-items c = search rules

pub overflow_add-rows : goal.overflow_add-rows
unfolding held_more
overflow_add-rows c = search rules

pub overflow_add-warned : goal.overflow_add-warned
unfolding held_more
overflow_add-warned c = search rules

pub overflow_add-inside : goal.overflow_add-inside
unfolding held_more
overflow_add-inside c = search rules

pub overflow_add-sum : goal.overflow_add-sum
unfolding held_more
overflow_add-sum c = search rules

pub overflow_add-count : goal.overflow_add-count
unfolding held_more
overflow_add-count c = search rules

pub returns : goal.returns
unfolding held_more
returns c = search rules
