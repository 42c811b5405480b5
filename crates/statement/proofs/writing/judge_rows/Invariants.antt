-- `judge_rows`: the rows passed lead to a stage from which all comes to the same. Assumes nothing.
use Prim.Native.Nat.{◌-◌}
use lib.ListN.{length}
use Rattle.gpc.specs.Statements.{row_spots}
use Rattle.statement.specs.Forms.{in_rows, Passed}
use Rattle.statement.proofs.writing.judge_rows.Given as goal

abbrev pub invariant-loop-at : goal.invariant-loop-at
invariant-loop-at l = Passed in_rows row_spots l.rows l.run l.at l.k

abbrev pub decreases-loop-at : goal.decreases-loop-at
decreases-loop-at l = length l.rows - l.at
