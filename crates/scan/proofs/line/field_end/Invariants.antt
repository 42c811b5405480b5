-- `field_end` meets its contract: from the index on, the space is found that is found from the start. Assumes nothing.
use Prim.Native.Nat.{◌+◌, ◌≤◌}
use mathlib.Core.Path.{◌≡◌}
use lib.ListN.{length, drop}
use Rattle.base.specs.Seek.{seek}
use Rattle.paper.specs.Bytes.{space}
use Rattle.scan.proofs.line.field_end.Given as goal

abbrev pub invariant-loop-stop : goal.invariant-loop-stop
invariant-loop-stop l = (l.stop ≤ length l.s) × (l.at + seek space (drop l.at l.s) ≡ l.stop + seek space (drop l.stop l.s))
