-- `take_run` meets its contract. The loop's invariant: the digits from i on, read on from the number so far, say what all of them say.
-- Assumes nothing.
use Rattle.std.proofs.Common.{rules}
use Rattle.numeral.proofs.placed.Turns.{turns}
use Rattle.numeral.proofs.placed.take_run.Goals as goal

pub loop-at-init : goal.loop-at-init
loop-at-init c = search (turns, rules)

pub bounds-s-i : goal.bounds-s-i
bounds-s-i c = search (turns, rules)

pub returns-then-b-lt48 : goal.returns-then-b-lt48
returns-then-b-lt48 c = search (turns)

pub overflow_mul-v : goal.overflow_mul-v
overflow_mul-v c = search (turns, rules)

pub overflow_cast-v : goal.overflow_cast-v
overflow_cast-v c = search (turns, rules)

pub overflow_sub-v : goal.overflow_sub-v
overflow_sub-v c = search (turns, rules)

pub overflow_add-v : goal.overflow_add-v
overflow_add-v c = search (turns, rules)

pub overflow_add-i : goal.overflow_add-i
overflow_add-i c = search (turns, rules)

pub loop-at-smaller : goal.loop-at-smaller
loop-at-smaller c = search (turns, rules)

pub loop-at-preserved : goal.loop-at-preserved
loop-at-preserved c = search (turns, rules)
