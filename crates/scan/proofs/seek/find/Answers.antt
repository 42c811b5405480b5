-- `scan::seek::find` meets its contract. Assumes nothing.
use borrow.Author.Rules.{rules}
use Rattle.scan.proofs.seek.Turns.{seeks}
use Rattle.scan.proofs.seek.find.Goals as goal

pub returns-then-starts_at : goal.returns-then-starts_at
returns-then-starts_at c = search (seeks)

pub loop-at-preserved : goal.loop-at-preserved
loop-at-preserved c = search (seeks, rules)

pub returns : goal.returns
returns c = search (seeks)
