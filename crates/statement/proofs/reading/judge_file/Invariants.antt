-- `judge_file`: the records passed lead to a stage from which all comes to the same. Assumes nothing.
use Prim.Native.Nat.{◌-◌}
use lib.ListN.{length}
use Rattle.gpc.specs.Statements.{record_spots}
use Rattle.statement.specs.Forms.{in_file, Passed}
use Rattle.statement.proofs.reading.judge_file.Given as goal

abbrev pub invariant-loop-at : goal.invariant-loop-at
invariant-loop-at l = Passed in_file record_spots l.f l.run l.at l.k

abbrev pub decreases-loop-at : goal.decreases-loop-at
decreases-loop-at l = length l.f - l.at
