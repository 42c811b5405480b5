-- `pass_other` meets its contract: each turn passes a block whose bytes are all of the kind. Assumes nothing.
use Prim.Native.Nat.{◌-◌, ◌≤◌}
use mathlib.Core.Path.{◌≡◌}
use lib.ListN.{length}
use Rattle.scan.specs.block.Blocks.{is_other, Skips}
use Rattle.scan.proofs.block.pass_other.Given as goal

abbrev pub invariant-loop-i : goal.invariant-loop-i
invariant-loop-i l = (l.n ≡ length l.s) × (16 ≤ l.n) × Skips (is_other l.b) l.s l.at l.i

abbrev pub decreases-loop-i : goal.decreases-loop-i
decreases-loop-i l = l.n - l.i
