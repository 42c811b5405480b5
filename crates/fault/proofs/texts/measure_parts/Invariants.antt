-- `measure_parts`: the parts of a message one after the other. Assumes nothing.
use Prim.Native.Nat.{◌-◌}
use lib.ListN.{length}
use Rattle.fault.proofs.texts.Parts.{Found}
use Rattle.fault.proofs.texts.measure_parts.Given as goal

abbrev pub invariant-loop-end : goal.invariant-loop-end
invariant-loop-end l = Found l.m l.from l.end l.count l.short

abbrev pub decreases-loop-end : goal.decreases-loop-end
decreases-loop-end l = length l.m - l.from
