-- `scan::seek::all_clean` meets its contract. Assumes nothing.
use borrow.Author.Rules.{rules}
use Rattle.scan.proofs.block.Passing.{all-skipped}
use Rattle.scan.proofs.seek.Turns.{told, alls}
use Rattle.scan.proofs.seek.all_clean.Goals as goal

pub returns-then-ends_clean : goal.returns-then-ends_clean
returns-then-ends_clean c = search told

pub loop-i-init : goal.loop-i-init
loop-i-init c = search all-skipped

pub loop-i-preserved : goal.loop-i-preserved
loop-i-preserved c = search (alls, rules)

pub returns-then-not-is_clean : goal.returns-then-not-is_clean
returns-then-not-is_clean c = search (alls)

pub returns : goal.returns
returns c = search (alls)
