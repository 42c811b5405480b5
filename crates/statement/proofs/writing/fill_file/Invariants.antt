-- `fill_file`: row after row the records stand in front of the old bytes. Assumes nothing.
use Prim.Native.Nat.{◌-◌}
use lib.ListN.{length}
use Rattle.statement.specs.Forms.{in_rows, Putting}
use Rattle.statement.proofs.writing.fill_file.Given as goal

abbrev pub invariant-loop-at : goal.invariant-loop-at
invariant-loop-at l = Putting in_rows l.rows l.initial.out l.at l.next l.out

abbrev pub decreases-loop-at : goal.decreases-loop-at
decreases-loop-at l = length l.rows - l.at
