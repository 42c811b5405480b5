-- `pass_high` meets its contract: each turn passes a block whose bytes are all of the kind. Assumes nothing.
use borrow.Author.Rules.{rules}
use Rattle.scan.proofs.block.Turns.{skips}
use Rattle.scan.proofs.block.pass_high.Goals as goal

pub loop-i-init : goal.loop-i-init
loop-i-init c = search skips

pub loop-i-preserved : goal.loop-i-preserved
loop-i-preserved c = search (skips, rules)

pub returns-else-high_block : goal.returns-else-high_block
returns-else-high_block c = search skips

pub returns : goal.returns
returns c = search skips
