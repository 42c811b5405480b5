-- The loop of `along`: judging goes along the group's lines, and a pass comes along with it. Assumes nothing.
use Prim.Native.Nat.{◌-◌}
use lib.ListN.{length}
use Rattle.judge.proofs.group.Going.{Going}
use Rattle.tracing.proofs.group.Going.{Carries}
use Rattle.tracing.proofs.group.along.Given as goal

abbrev pub invariant-loop-at : goal.invariant-loop-at
invariant-loop-at l = Going l.sh l.today l.banks l.f l.at-2 l.line-2 l.initial.held l.at l.line l.held × Carries l.sh l.today l.f l.at-2 l.line-2 l.initial.held l.at l.line l.held

abbrev pub decreases-loop-at : goal.decreases-loop-at
decreases-loop-at l = length l.f - l.at
