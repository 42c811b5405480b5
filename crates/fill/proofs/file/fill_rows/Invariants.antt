-- `fill_rows`: line after line the rows stand in front of the old bytes. Assumes nothing.
use Prim.Native.Nat.{◌-◌, ◌≤◌}
use lib.ListN.{length}
use Rattle.paper.specs.Lines.{lines_from}
use Rattle.fill.specs.file.Judged.{AllSaid}
use Rattle.fill.proofs.file.Lines.{Going}
use Rattle.fill.proofs.file.fill_rows.Given as goal

abbrev pub invariant-loop-at : goal.invariant-loop-at
invariant-loop-at l = (l.at ≤ length l.f) × Going l.f l.sh l.today l.initial.rows l.at l.next l.single l.rows × AllSaid l.sh l.today l.single (lines_from l.f l.at)

abbrev pub decreases-loop-at : goal.decreases-loop-at
decreases-loop-at l = length l.f - l.at
