-- `doubled_sum`: by how many digits n has. Assumes nothing.
use borrow.Author.Rules.{rules}
use Rattle.account.proofs.Doubled.{sums}
use Rattle.account.proofs.doubled_sum.Goals as goal

pub returns-then-n-lt10000 : goal.returns-then-n-lt10000
returns-then-n-lt10000 c = search (sums, rules)

pub returns-then-n-lt100000000 : goal.returns-then-n-lt100000000
returns-then-n-lt100000000 c = search (sums, rules)

pub returns : goal.returns
returns c = search (sums, rules)
