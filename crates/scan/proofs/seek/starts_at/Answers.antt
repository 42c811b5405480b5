-- `scan::seek::starts_at` meets its contract. Assumes nothing.
use borrow.Author.Rules.{rules}
use Rattle.scan.proofs.seek.Turns.{begins}
use Rattle.scan.proofs.seek.starts_at.Goals as goal

pub returns-then-rest-j : goal.returns-then-rest-j
returns-then-rest-j c = search (begins)

pub loop-j-preserved : goal.loop-j-preserved
loop-j-preserved c = search (begins, rules)

pub returns-then-s-at : goal.returns-then-s-at
returns-then-s-at c = search (begins)

pub returns : goal.returns
returns c = search (begins)
