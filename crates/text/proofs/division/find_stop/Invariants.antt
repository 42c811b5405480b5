-- `find_stop` meets its contract: each turn passes a byte that ends no part. Assumes nothing.
use Rattle.scan.specs.block.Blocks.{Skips}
use Rattle.text.specs.division.Unnamed.{is_plain}
use Rattle.text.proofs.division.find_stop.Given as goal

abbrev pub invariant-loop-i : goal.invariant-loop-i
invariant-loop-i l = Skips is_plain l.s l.at l.i
