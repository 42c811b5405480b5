-- `part_end` meets its contract: behind each stop that ends no part, the part is still open. Assumes nothing.
use borrow.Author.Rules.{rules}
use Rattle.text.proofs.division.Turns.{mark-room, open-mark, opens}
use Rattle.text.proofs.division.part_end.Goals as goal

pub loop-i-init : goal.loop-i-init
loop-i-init c = search opens

pub find_stop-e-requires : goal.find_stop-e-requires
find_stop-e-requires c = search (opens, rules)

pub returns-then-e-s : goal.returns-then-e-s
returns-then-e-s c = search opens

pub bounds-s-e : goal.bounds-s-e
bounds-s-e c = search (opens, rules)

pub returns-then-s-e-eq124 : goal.returns-then-s-e-eq124
returns-then-s-e-eq124 c = search opens

pub ends_mark-requires : goal.ends_mark-requires
ends_mark-requires c = search (opens, rules)

pub overflow_sub-result : goal.overflow_sub-result
overflow_sub-result c = mark-room _ _ _ _ c.loop-i.invariant c.find_stop-e.ensures c.if-e-s.false _ c.ends_mark.ensures c.if-ends_mark.true

pub returns-then-ends_mark : goal.returns-then-ends_mark
returns-then-ends_mark c = open-mark _ _ _ _ c.loop-i.invariant c.find_stop-e.ensures c.if-e-s.false _ c.ends_mark.ensures c.if-ends_mark.true

pub overflow_add-i : goal.overflow_add-i
overflow_add-i c = search (opens, rules)

pub loop-i-smaller : goal.loop-i-smaller
loop-i-smaller c = search (opens, rules)

pub loop-i-preserved : goal.loop-i-preserved
loop-i-preserved c = search opens

pub returns : goal.returns
returns c = search opens
