-- `four_digits` meets its contract: one byte after the other. Assumes nothing.
use borrow.Author.Rules.{rules}
use Rattle.fileline.proofs.Four.{fours}
use Rattle.fileline.proofs.four_digits.Goals as goal

pub returns-then-worth-gt9 : goal.returns-then-worth-gt9
returns-then-worth-gt9 c = search (fours, rules)

pub returns-then-worth-gt9-2 : goal.returns-then-worth-gt9-2
returns-then-worth-gt9-2 c = search (fours, rules)

pub returns-then-worth-gt9-3 : goal.returns-then-worth-gt9-3
returns-then-worth-gt9-3 c = search (fours, rules)

pub returns-then-worth-gt9-4 : goal.returns-then-worth-gt9-4
returns-then-worth-gt9-4 c = search (fours, rules)

pub returns : goal.returns
returns c = search (fours, rules)
