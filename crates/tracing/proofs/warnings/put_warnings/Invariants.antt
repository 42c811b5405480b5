-- The loop of `put_warnings`: the warnings of the lines passed are put, and there is less to go. Assumes nothing.
use Prim.Native.Nat.{◌-◌}
use lib.ListN.{length}
use Rattle.tracing.proofs.warnings.Listing.{Listing}
use Rattle.tracing.proofs.warnings.put_warnings.Given as goal

abbrev pub invariant-loop-at : goal.invariant-loop-at
invariant-loop-at l = Listing l.t l.f l.initial.out l.to l.at l.line l.x l.out

abbrev pub decreases-loop-at : goal.decreases-loop-at
decreases-loop-at l = length l.f - l.at
