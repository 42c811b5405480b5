-- `proper_rows` meets its contract: the verdict over all rows is that of the rows that are left. Assumes nothing.
use Rattle.rows.proofs.walk.Going.{Going}
use Rattle.rows.proofs.walk.proper_rows.Given as goal

abbrev pub invariant-loop-i : goal.invariant-loop-i
invariant-loop-i l = Going l.texts l.rows l.i l.before
