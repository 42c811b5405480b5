-- `pass_long` meets its contract: each turn passes a block whose bytes are all of the kind. Assumes nothing.
use Prim.Native.Nat.{◌-◌}
use lib.ListN.{length}
use Rattle.scan.specs.block.Blocks.{is_other, Skips}
use Rattle.scan.proofs.block.pass_long.Given as goal

abbrev pub invariant-loop-i : goal.invariant-loop-i
invariant-loop-i l = Skips (is_other l.b) l.s l.at l.i

abbrev pub decreases-loop-i : goal.decreases-loop-i
decreases-loop-i l = length l.s - l.i
