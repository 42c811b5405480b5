-- `digit_run` meets its contract. The loop's invariant: what is left of the run, read on from the number so far, says what the whole run says.
-- Assumes nothing.
use Rattle.numeral.proofs.field.Turns.{Reads}
use Rattle.numeral.proofs.field.digit_run.Given as goal

abbrev pub invariant-loop-i : goal.invariant-loop-i
invariant-loop-i l = Reads l.s l.at l.most l.stop l.v l.i
