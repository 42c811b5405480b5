-- `text::span::long` meets its contract. Assumes nothing.
use borrow.Author.Rules.{rules}
use Rattle.base.proofs.Cases.{picks}
use Rattle.text.specs.span.Places.{longer}
use Rattle.text.proofs.span.long.Goals as goal

pub returns-then-len-gt35 : goal.returns-then-len-gt35
unfolding longer
returns-then-len-gt35 c = search (picks, rules)

pub returns : goal.returns
unfolding longer
returns c = search (picks, rules)
