-- `sum_run` meets its contract. The loop's invariant: what is left of the run, read on from the number so far, says what the whole run
-- says, and the sum is that of the number so far. Assumes nothing.
use mathlib.Core.Path.{◌≡◌}
use Rattle.account.specs.Doubled.{doubled}
use Rattle.numeral.proofs.field.Turns.{Reads}
use Rattle.account.proofs.at.sum_run.Given as goal

abbrev pub invariant-loop-end : goal.invariant-loop-end
invariant-loop-end l = Reads l.s l.at l.most l.stop l.value l.end × (l.sum ≡ doubled 19 l.value)
