-- `spaces` meets its contract: the spaces counted and those behind it are all. Assumes nothing.
use Prim.Native.Nat.{◌+◌, ◌≤◌}
use mathlib.Core.Path.{◌≡◌}
use lib.ListN.{drop}
use Rattle.paper.specs.GroupLine.{space_count}
use Rattle.scan.proofs.line.spaces.Given as goal

abbrev pub invariant-loop-b : goal.invariant-loop-b
invariant-loop-b l = (l.n ≤ l.b-index) × (space_count l.s ≡ l.n + space_count (drop l.b-index l.s))
