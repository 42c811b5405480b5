-- `survey` meets its contract: the outcome of all rows is that of the rows that are left. Assumes nothing.
use Rattle.survey.proofs.Going.{Going}
use Rattle.survey.proofs.survey.Given as goal

abbrev pub invariant-loop-i : goal.invariant-loop-i
invariant-loop-i l = Going l.sh l.today l.from l.to l.texts l.rows l.i l.all l.kind l.due l.seen.words l.st
