-- `next_line` meets its contract: no byte passed ends a line, and each `return` stands at a line's end. Assumes nothing.
use Rattle.scan.proofs.line.Cutting.{Passed}
use Rattle.scan.proofs.line.next_line.Given as goal

abbrev pub invariant-loop-i : goal.invariant-loop-i
invariant-loop-i l = Passed l.f l.at l.i
