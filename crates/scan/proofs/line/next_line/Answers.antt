-- `next_line` meets its contract: no byte passed ends a line, and each `return` stands at a line's end. Assumes nothing.
use Rattle.scan.proofs.line.Plain.{is-plain}
use Rattle.scan.proofs.line.Cutting.{passed-high, passed-more, cuts}
use Rattle.scan.proofs.line.next_line.Goals as goal

pub loop-i-init : goal.loop-i-init
loop-i-init c = search passed-high

pub returns-then-b-eq13 : goal.returns-then-b-eq13
returns-then-b-eq13 c = search cuts

pub returns-then-b-eq10 : goal.returns-then-b-eq10
returns-then-b-eq10 c = search cuts

pub loop-i-preserved : goal.loop-i-preserved
loop-i-preserved c = search (passed-more, is-plain)

pub returns : goal.returns
returns c = search cuts
