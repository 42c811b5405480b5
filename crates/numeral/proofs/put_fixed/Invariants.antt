-- `numeral::put_fixed` meets its contract: with the digits that are left put in front, the output is what it is to be. Assumes nothing.
use Rattle.std.proofs.Common.{◌≡◌, ◌≤◌, length}
use Rattle.base.specs.Put.{put}
use Rattle.paper.specs.Numerals.{fixed}
use Rattle.numeral.proofs.put_fixed.Given as goal

abbrev pub invariant-loop-j : goal.invariant-loop-j
invariant-loop-j l = (l.j ≤ l.k) × (length l.out ≡ length l.initial.out) × (put l.out l.at (fixed l.j l.m) ≡ put l.initial.out l.at (fixed l.k l.n))

abbrev pub decreases-loop-j : goal.decreases-loop-j
decreases-loop-j l = l.j
