-- `digit_run` meets its contract. The loop's invariant: what is left of the run, read on from the number so far, says what the whole run says.
-- Assumes nothing.
use Rattle.std.proofs.Common.{rules}
use Rattle.numeral.proofs.field.Turns.{turns}
use Rattle.numeral.proofs.field.digit_run.Goals as goal

pub loop-i-init : goal.loop-i-init
loop-i-init c = search (turns, rules)

pub bounds-s-i : goal.bounds-s-i
bounds-s-i c = search (turns, rules)

pub returns-then-d-gt9 : goal.returns-then-d-gt9
returns-then-d-gt9 c = search turns

pub overflow_mul-v : goal.overflow_mul-v
overflow_mul-v c = search (turns, rules)

pub overflow_add-v : goal.overflow_add-v
overflow_add-v c = search (turns, rules)

pub loop-i-preserved : goal.loop-i-preserved
loop-i-preserved c = search (turns, rules)

pub returns : goal.returns
returns c = search turns
