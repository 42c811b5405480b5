-- `at_most` is the number, but no more than the most.
use borrow.Author.Rules.{rules}
use Rattle.base.proofs.Cases.{picks}
use Rattle.sentences.proofs.found.at_most.Goals as goal

pub returns-then-n-most : goal.returns-then-n-most
returns-then-n-most c = search (picks, rules)

pub returns : goal.returns
returns c = search (picks, rules)
