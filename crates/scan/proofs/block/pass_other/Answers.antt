-- `pass_other` meets its contract: each turn passes a block whose bytes are all of the kind. Assumes nothing.
use borrow.Author.Rules.{rules}
use Rattle.scan.proofs.block.Turns.{skips}
use Rattle.scan.proofs.block.pass_other.Goals as goal

pub returns-then-n-lt16 : goal.returns-then-n-lt16
returns-then-n-lt16 c = search skips

pub loop-i-init : goal.loop-i-init
loop-i-init c = search (skips, rules)

pub block_at-p-requires : goal.block_at-p-requires
block_at-p-requires c = search (skips, rules)

pub all_other-requires : goal.all_other-requires
all_other-requires c = search (skips, rules)

pub overflow_add-i : goal.overflow_add-i
overflow_add-i c = search (skips, rules)

pub loop-i-smaller : goal.loop-i-smaller
loop-i-smaller c = search (skips, rules)

pub loop-i-preserved : goal.loop-i-preserved
loop-i-preserved c = search (skips, rules)

pub returns-else-all_other : goal.returns-else-all_other
returns-else-all_other c = search skips

pub returns : goal.returns
returns c = search skips
