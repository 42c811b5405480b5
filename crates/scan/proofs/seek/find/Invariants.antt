-- `scan::seek::find` meets its contract. Assumes nothing.
use Prim.Native.Nat.{◌+◌, ◌≤◌}
use mathlib.Core.Path.{◌≡◌}
use lib.ListN.{length, drop}
use Rattle.base.specs.Seek.{seek}
use Rattle.scan.proofs.seek.find.Given as goal

abbrev pub invariant-loop-at : goal.invariant-loop-at
invariant-loop-at l = (l.at ≤ length l.s) × (l.from + seek l.pat (drop l.from l.s) ≡ l.at + seek l.pat (drop l.at l.s))
