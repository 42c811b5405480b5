-- `all_other` meets its contract: while the answer is true, every byte passed is of the kind. Assumes nothing.
use Rattle.scan.proofs.block.Turns.{Passes}
use Rattle.scan.specs.block.Blocks.{is_other}
use Rattle.scan.proofs.block.all_other.Given as goal

abbrev pub invariant-loop-j : goal.invariant-loop-j
invariant-loop-j l = Passes (is_other l.b) l.s l.at l.j l.other
