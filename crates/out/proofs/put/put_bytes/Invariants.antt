-- `out::put::put_bytes` meets its contract: the output so far is the lent one with the first i bytes put. Assumes nothing.
use mathlib.Core.Path.{◌≡◌}
use lib.ListN.{take}
use Rattle.base.specs.Put.{put}
use Rattle.out.proofs.put.put_bytes.Given as goal

abbrev pub invariant-loop-i : goal.invariant-loop-i
invariant-loop-i l = l.out ≡ put l.initial.out l.at (take l.i l.p)
