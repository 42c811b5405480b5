-- `take_run` meets its contract. The loop's invariant: the digits from i on, read on from the number so far, say what all of them say.
-- Assumes nothing.
use Rattle.std.proofs.Common.{◌-◌, length}
use Rattle.numeral.proofs.placed.Turns.{Takes}
use Rattle.numeral.proofs.placed.take_run.Given as goal

abbrev pub invariant-loop-at : goal.invariant-loop-at
invariant-loop-at l = Takes l.s l.at l.v l.i

abbrev pub decreases-loop-at : goal.decreases-loop-at
decreases-loop-at l = length l.s - l.i
