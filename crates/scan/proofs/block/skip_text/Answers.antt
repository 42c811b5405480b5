-- `skip_text` meets its contract: each turn passes a block whose bytes are all of the kind. Assumes nothing.
use borrow.Author.Rules.{rules}
use Rattle.scan.proofs.block.Turns.{skips}
use Rattle.scan.proofs.block.skip_text.Goals as goal

pub returns-then-n-lt16 : goal.returns-then-n-lt16
returns-then-n-lt16 c = search skips

pub loop-i-init : goal.loop-i-init
loop-i-init c = search (skips, rules)

pub block_at-p-requires : goal.block_at-p-requires
block_at-p-requires c = search (skips, rules)

pub text_block-requires : goal.text_block-requires
text_block-requires c = search (skips, rules)

pub overflow_add-i : goal.overflow_add-i
overflow_add-i c = search (skips, rules)

pub loop-i-smaller : goal.loop-i-smaller
loop-i-smaller c = search (skips, rules)

pub loop-i-preserved : goal.loop-i-preserved
loop-i-preserved c = search (skips, rules)

pub returns-else-text_block : goal.returns-else-text_block
returns-else-text_block c = search skips

pub returns : goal.returns
returns c = search skips
