-- `find_byte` meets its contract: what is sought from the index on is what is sought from the start. Assumes nothing.
use borrow.Author.Rules.{rules}
use Rattle.scan.proofs.block.Passing.{seek-skipped}
use Rattle.scan.proofs.find.Turns.{turns}
use Rattle.scan.proofs.find.find_byte.Goals as goal

pub loop-i-init : goal.loop-i-init
loop-i-init c = (c.skip_other-i.ensures.inside, search seek-skipped)

pub returns-then-s-i : goal.returns-then-s-i
returns-then-s-i c = search turns

pub loop-i-preserved : goal.loop-i-preserved
loop-i-preserved c = search (turns, rules)

pub returns : goal.returns
returns c = search turns
