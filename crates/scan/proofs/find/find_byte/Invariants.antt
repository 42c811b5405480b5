-- `find_byte` meets its contract: what is sought from the index on is what is sought from the start. Assumes nothing.
use Prim.Native.Nat.{◌+◌, ◌≤◌}
use mathlib.Core.Path.{◌≡◌}
use mathlib.Core.List.{[], ◌∷◌}
use lib.ListN.{length, drop}
use Rattle.base.specs.Seek.{seek}
use Rattle.scan.proofs.find.find_byte.Given as goal

abbrev pub invariant-loop-i : goal.invariant-loop-i
invariant-loop-i l = (l.i ≤ length l.s) × (l.from + seek (l.b ∷ []) (drop l.from l.s) ≡ l.i + seek (l.b ∷ []) (drop l.i l.s))
