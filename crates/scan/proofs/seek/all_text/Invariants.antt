-- `scan::seek::all_text` meets its contract. Assumes nothing.
use mathlib.Core.Path.{◌≡◌}
use lib.ListN.{drop}
use Rattle.base.specs.Seek.{all}
use Rattle.paper.specs.Bytes.{is_text}
use Rattle.scan.proofs.seek.all_text.Given as goal

abbrev pub invariant-loop-i : goal.invariant-loop-i
invariant-loop-i l = (all is_text (drop l.from l.s) ≡ all is_text (drop l.i l.s))
