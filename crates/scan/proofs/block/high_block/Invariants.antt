-- `high_block` meets its contract: while the answer is true, every byte passed is of the kind. Assumes nothing.
use Rattle.scan.proofs.block.Turns.{Passes}
use Rattle.scan.specs.block.Blocks.{is_high}
use Rattle.scan.proofs.block.high_block.Given as goal

abbrev pub invariant-loop-j : goal.invariant-loop-j
invariant-loop-j l = Passes is_high l.s l.at l.j l.high
