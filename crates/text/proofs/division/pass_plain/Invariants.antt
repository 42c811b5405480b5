-- `pass_plain` meets its contract: each turn passes a block whose bytes are all of the kind. Assumes nothing.
use Prim.Native.Nat.{◌-◌}
use lib.ListN.{length}
use Rattle.scan.specs.block.Blocks.{Skips}
use Rattle.text.specs.division.Unnamed.{is_plain}
use Rattle.text.proofs.division.pass_plain.Given as goal

abbrev pub invariant-loop-i : goal.invariant-loop-i
invariant-loop-i l = Skips is_plain l.s l.at l.i

abbrev pub decreases-loop-i : goal.decreases-loop-i
decreases-loop-i l = length l.s - l.i
