-- The loop of `along`: judging goes along the group's lines, and a pass comes along with it. Assumes nothing.
use borrow.Author.Rules.{rules}
use Rattle.judge.proofs.group.Going.{goings}
use Rattle.tracing.proofs.group.Going.{goes-along}
use Rattle.tracing.proofs.group.along.Goals as goal

pub loop-at-init : goal.loop-at-init
loop-at-init c = search (goings, goes-along, rules)

pub held_more-held-requires : goal.held_more-held-requires
held_more-held-requires c = search (goings, goes-along, rules)

pub overflow_add-line : goal.overflow_add-line
overflow_add-line c = search (goings, goes-along, rules)

pub loop-at-smaller : goal.loop-at-smaller
loop-at-smaller c = search (goings, goes-along, rules)

pub loop-at-preserved : goal.loop-at-preserved
loop-at-preserved c = (search (goings, c.loop-at.invariant.0, c.next_line-cut.ensures, c.item_step.ensures, c.held_more-held.ensures, c.requires.sane), search (goes-along, c.loop-at.invariant.0, c.loop-at.invariant.1, c.next_line-cut.ensures, c.item_step.ensures, c.held_more-held.ensures, c.requires.sane))

pub overflow_add-line-in-Ok-Close : goal.overflow_add-line-in-Ok-Close
overflow_add-line-in-Ok-Close c = search (goings, goes-along, rules)

pub close_group-end-requires : goal.close_group-end-requires
close_group-end-requires c = search (goings, goes-along, rules)

pub returns-in-Ok-Close : goal.returns-in-Ok-Close
returns-in-Ok-Close c = search (goings, goes-along, rules)

pub returns-in-Err : goal.returns-in-Err
returns-in-Err c = search (goings, goes-along, rules)

pub returns : goal.returns
returns c = search (goings, goes-along, rules)
