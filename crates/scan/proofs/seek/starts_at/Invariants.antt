-- `scan::seek::starts_at` meets its contract. Assumes nothing.
use Prim.Native.Nat.{◌+◌, ◌-◌, ◌≤◌}
use mathlib.Core.Path.{◌≡◌}
use lib.ListN.{length, drop}
use Rattle.base.specs.Seek.{starts}
use Rattle.scan.proofs.seek.starts_at.Given as goal

abbrev pub invariant-loop-j : goal.invariant-loop-j
invariant-loop-j l = (l.at ≤ length l.s) × (l.rest ≡ length l.s - l.at) × (l.j ≤ length l.pat) × (starts l.pat (drop l.at l.s) ≡ starts (drop l.j l.pat) (drop (l.at + l.j) l.s))
