-- `text_block` meets its contract: while the answer is true, every byte passed is of the kind. Assumes nothing.
use Rattle.scan.proofs.block.Turns.{Passes}
use Rattle.paper.specs.Bytes.{is_text}
use Rattle.scan.proofs.block.text_block.Given as goal

abbrev pub invariant-loop-j : goal.invariant-loop-j
invariant-loop-j l = Passes is_text l.s l.at l.j l.text
