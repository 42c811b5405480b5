-- `fill_rows`: record after record the rows stand in front of the old bytes. Assumes nothing.
use Prim.Native.Nat.{◌-◌}
use lib.ListN.{length}
use Rattle.statement.specs.Forms.{in_file, Putting}
use Rattle.statement.proofs.reading.fill_rows.Given as goal

abbrev pub invariant-loop-at : goal.invariant-loop-at
invariant-loop-at l = Putting in_file l.f l.initial.rows l.at l.next l.rows

abbrev pub decreases-loop-at : goal.decreases-loop-at
decreases-loop-at l = length l.f - l.at
