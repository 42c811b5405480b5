-- `near` meets its contract: every byte passed is of the kind. Assumes nothing.
use borrow.Author.Rules.{rules}
use Rattle.scan.proofs.block.Turns.{nears}
use Rattle.scan.proofs.block.near.Goals as goal

pub loop-i-init : goal.loop-i-init
loop-i-init c = search (nears, rules)

pub overflow_sub-s : goal.overflow_sub-s
overflow_sub-s c = search (nears, rules)

pub bounds-s-i : goal.bounds-s-i
bounds-s-i c = search (nears, rules)

pub returns-then-s-i : goal.returns-then-s-i
returns-then-s-i c = search nears

pub overflow_add-i : goal.overflow_add-i
overflow_add-i c = search (nears, rules)

pub bounds-s-i-in-loop-i : goal.bounds-s-i-in-loop-i
bounds-s-i-in-loop-i c = search (nears, rules)

pub overflow_add-result : goal.overflow_add-result
overflow_add-result c = search (nears, rules)

pub returns-then-s-i-2 : goal.returns-then-s-i-2
returns-then-s-i-2 c = search nears

pub overflow_add-i-in-loop-i : goal.overflow_add-i-in-loop-i
overflow_add-i-in-loop-i c = search (nears, rules)

pub bounds-s-i-in-loop-i-2 : goal.bounds-s-i-in-loop-i-2
bounds-s-i-in-loop-i-2 c = search (nears, rules)

pub overflow_add-result-then-s-i-3 : goal.overflow_add-result-then-s-i-3
overflow_add-result-then-s-i-3 c = search (nears, rules)

pub returns-then-s-i-3 : goal.returns-then-s-i-3
returns-then-s-i-3 c = search nears

pub overflow_add-i-in-loop-i-2 : goal.overflow_add-i-in-loop-i-2
overflow_add-i-in-loop-i-2 c = search (nears, rules)

pub bounds-s-i-in-loop-i-3 : goal.bounds-s-i-in-loop-i-3
bounds-s-i-in-loop-i-3 c = search (nears, rules)

pub overflow_add-result-then-s-i-4 : goal.overflow_add-result-then-s-i-4
overflow_add-result-then-s-i-4 c = search (nears, rules)

pub returns-then-s-i-4 : goal.returns-then-s-i-4
returns-then-s-i-4 c = search nears

pub overflow_add-i-in-loop-i-3 : goal.overflow_add-i-in-loop-i-3
overflow_add-i-in-loop-i-3 c = search (nears, rules)

pub bounds-s-i-in-loop-i-4 : goal.bounds-s-i-in-loop-i-4
bounds-s-i-in-loop-i-4 c = search (nears, rules)

pub overflow_add-result-then-s-i-5 : goal.overflow_add-result-then-s-i-5
overflow_add-result-then-s-i-5 c = search (nears, rules)

pub returns-then-s-i-5 : goal.returns-then-s-i-5
returns-then-s-i-5 c = search nears

pub overflow_add-i-in-loop-i-4 : goal.overflow_add-i-in-loop-i-4
overflow_add-i-in-loop-i-4 c = search (nears, rules)

pub bounds-s-i-in-loop-i-5 : goal.bounds-s-i-in-loop-i-5
bounds-s-i-in-loop-i-5 c = search (nears, rules)

pub overflow_add-result-then-s-i-6 : goal.overflow_add-result-then-s-i-6
overflow_add-result-then-s-i-6 c = search (nears, rules)

pub returns-then-s-i-6 : goal.returns-then-s-i-6
returns-then-s-i-6 c = search nears

pub overflow_add-i-in-loop-i-5 : goal.overflow_add-i-in-loop-i-5
overflow_add-i-in-loop-i-5 c = search (nears, rules)

pub bounds-s-i-in-loop-i-6 : goal.bounds-s-i-in-loop-i-6
bounds-s-i-in-loop-i-6 c = search (nears, rules)

pub overflow_add-result-then-s-i-7 : goal.overflow_add-result-then-s-i-7
overflow_add-result-then-s-i-7 c = search (nears, rules)

pub returns-then-s-i-7 : goal.returns-then-s-i-7
returns-then-s-i-7 c = search nears

pub overflow_add-i-in-loop-i-6 : goal.overflow_add-i-in-loop-i-6
overflow_add-i-in-loop-i-6 c = search (nears, rules)

pub bounds-s-i-in-loop-i-7 : goal.bounds-s-i-in-loop-i-7
bounds-s-i-in-loop-i-7 c = search (nears, rules)

pub overflow_add-result-then-s-i-8 : goal.overflow_add-result-then-s-i-8
overflow_add-result-then-s-i-8 c = search (nears, rules)

pub returns-then-s-i-8 : goal.returns-then-s-i-8
returns-then-s-i-8 c = search nears

pub overflow_add-i-in-loop-i-7 : goal.overflow_add-i-in-loop-i-7
overflow_add-i-in-loop-i-7 c = search (nears, rules)

pub loop-i-smaller : goal.loop-i-smaller
loop-i-smaller c = search (nears, rules)

pub loop-i-preserved : goal.loop-i-preserved
loop-i-preserved c = search (nears, rules)

pub returns : goal.returns
returns c = search nears
