-- `pass_plain` meets its contract: each turn passes a block whose bytes are all of the kind. Assumes nothing.
use borrow.Author.Rules.{rules}
use Rattle.scan.proofs.block.Turns.{skips}
use Rattle.text.proofs.division.pass_plain.Goals as goal

pub loop-i-init : goal.loop-i-init
loop-i-init c = search skips

pub loop-i-preserved : goal.loop-i-preserved
loop-i-preserved c = search (skips, rules)

pub returns-else-all_plain : goal.returns-else-all_plain
returns-else-all_plain c = search skips

pub returns : goal.returns
returns c = search skips
