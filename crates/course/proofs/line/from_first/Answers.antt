-- `from_first` meets its contract: the first line, or judging halts at each other kind of line. Assumes nothing.
use borrow.Author.Rules.{rules}
use Rattle.tally.specs.Tally.{is_due}
use Rattle.course.proofs.line.Leading.{others-halt}
use Rattle.course.proofs.line.from_first.Goals as goal

pub kind_of-requires : goal.kind_of-requires
kind_of-requires c = search (others-halt, rules)

pub begin-requires : goal.begin-requires
begin-requires c = search (others-halt, rules)

pub returns-in-Head : goal.returns-in-Head
unfolding is_due
returns-in-Head c = search (others-halt, rules)

pub returns-in_default : goal.returns-in_default
returns-in_default c = search (others-halt, rules)
