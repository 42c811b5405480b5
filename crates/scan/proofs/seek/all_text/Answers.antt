-- `scan::seek::all_text` meets its contract. Assumes nothing.
use borrow.Author.Rules.{rules}
use Rattle.scan.proofs.block.Passing.{all-skipped}
use Rattle.scan.proofs.seek.Turns.{alls}
use Rattle.scan.proofs.seek.all_text.Goals as goal

pub loop-i-init : goal.loop-i-init
loop-i-init c = search all-skipped

pub loop-i-preserved : goal.loop-i-preserved
loop-i-preserved c = search (alls, rules)

pub returns-then-not-is_text : goal.returns-then-not-is_text
returns-then-not-is_text c = search (alls)

pub returns : goal.returns
returns c = search (alls)
