-- `next_pair`: the tens, then the ones. Assumes nothing.
use borrow.Author.Rules.{rules}
use Rattle.account.proofs.Doubled.{sums}
use Rattle.account.proofs.next_pair.Goals as goal

pub returns : goal.returns
returns c = search (sums, rules)
