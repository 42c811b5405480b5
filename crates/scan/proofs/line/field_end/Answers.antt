-- `field_end` meets its contract: from the index on, the space is found that is found from the start. Assumes nothing.
use borrow.Author.Rules.{rules}
use Rattle.scan.proofs.line.Fields.{turns}
use Rattle.scan.proofs.line.field_end.Goals as goal

pub returns-then-s-stop-eq32 : goal.returns-then-s-stop-eq32
returns-then-s-stop-eq32 c = search turns

pub loop-stop-preserved : goal.loop-stop-preserved
loop-stop-preserved c = search (turns, rules)

pub returns : goal.returns
returns c = search turns
