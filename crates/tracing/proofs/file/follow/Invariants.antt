-- The loop of `follow`: judging of the lines passed comes to where the pass stands, and there is less to go. Assumes nothing.
use Prim.Native.Nat.{◌-◌}
use lib.ListN.{length}
use Rattle.tracing.specs.file.Comes.{Reached}
use Rattle.tracing.proofs.file.follow.Given as goal

abbrev pub invariant-loop-at : goal.invariant-loop-at
invariant-loop-at l = Reached l.sh l.today l.f l.at l.line l.x l.seen

abbrev pub decreases-loop-at : goal.decreases-loop-at
decreases-loop-at l = length l.f - l.at
