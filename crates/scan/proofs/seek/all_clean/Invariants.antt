-- `scan::seek::all_clean` meets its contract. Assumes nothing.
use mathlib.Core.Path.{◌≡◌}
use lib.ListN.{drop}
use Rattle.base.specs.Seek.{all}
use Rattle.paper.specs.Bytes.{is_clean}
use Rattle.scan.proofs.seek.all_clean.Given as goal

abbrev pub invariant-loop-i : goal.invariant-loop-i
invariant-loop-i l = (all is_clean (drop l.from l.s) ≡ all is_clean (drop l.i l.s))
