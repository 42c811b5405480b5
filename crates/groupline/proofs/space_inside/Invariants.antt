-- `space_inside` meets its contract: no space stands between the index and `stop`. Assumes nothing.
use Prim.Native.Nat.{◌≤◌}
use mathlib.Core.Path.{◌≡◌}
use lib.ListN.{drop}
use Rattle.paper.specs.GroupLine.{space_count}
use Rattle.groupline.proofs.space_inside.Given as goal

abbrev pub invariant-loop-i : goal.invariant-loop-i
invariant-loop-i l = (2 ≤ l.i) × (space_count (drop l.i l.s) ≡ space_count (drop l.stop l.s))
