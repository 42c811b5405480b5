-- `next_four`: two pairs, the left one first. Assumes nothing.
use borrow.Author.Rules.{rules}
use Rattle.account.proofs.Doubled.{sums}
use Rattle.account.proofs.next_four.Goals as goal

pub returns : goal.returns
returns c = search (sums, rules)
