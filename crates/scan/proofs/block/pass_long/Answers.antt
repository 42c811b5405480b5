-- `pass_long` meets its contract: each turn passes a block whose bytes are all of the kind. Assumes nothing.
use borrow.Author.Rules.{rules}
use Rattle.scan.proofs.block.Turns.{skips}
use Rattle.scan.proofs.block.pass_long.Goals as goal

pub loop-i-init : goal.loop-i-init
loop-i-init c = search skips

pub loop-i-preserved : goal.loop-i-preserved
loop-i-preserved c = search (skips, rules)

pub returns-else-all_other : goal.returns-else-all_other
returns-else-all_other c = search skips

pub returns : goal.returns
returns c = search skips
