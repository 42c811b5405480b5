-- `skip_clean` meets its contract: each turn passes a block whose bytes are all of the kind. Assumes nothing.
use Prim.Native.Nat.{◌-◌, ◌≤◌}
use mathlib.Core.Path.{◌≡◌}
use lib.ListN.{length}
use Rattle.scan.specs.block.Blocks.{Skips}
use Rattle.paper.specs.Bytes.{is_clean}
use Rattle.scan.proofs.block.skip_clean.Given as goal

abbrev pub invariant-loop-i : goal.invariant-loop-i
invariant-loop-i l = (l.n ≡ length l.s) × (16 ≤ l.n) × Skips is_clean l.s l.at l.i

abbrev pub decreases-loop-i : goal.decreases-loop-i
decreases-loop-i l = l.n - l.i
