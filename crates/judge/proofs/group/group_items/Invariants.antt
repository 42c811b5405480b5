-- `group_items`: line after line the file's answer stays and the place moves on. Assumes nothing.
use Prim.Native.Nat.{◌-◌}
use lib.ListN.{length}
use Rattle.judge.proofs.group.Going.{Going}
use Rattle.judge.proofs.group.group_items.Given as goal

abbrev pub invariant-loop-at : goal.invariant-loop-at
invariant-loop-at l = Going l.sh l.today l.banks l.f l.at-2 l.line-2 l.initial.held l.at l.line l.held

abbrev pub decreases-loop-at : goal.decreases-loop-at
decreases-loop-at l = length l.f - l.at
