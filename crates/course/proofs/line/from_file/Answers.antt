-- `from_file` meets its contract: an account file begins, or judging halts at each other kind of line. Assumes nothing.
use borrow.Author.Rules.{rules}
use Rattle.tally.specs.Tally.{is_due}
use Rattle.course.proofs.line.Leading.{others-halt}
use Rattle.course.proofs.line.from_file.Goals as goal

pub kind_of-requires : goal.kind_of-requires
kind_of-requires c = search (others-halt, rules)

pub open_file-requires : goal.open_file-requires
open_file-requires c = search (others-halt, rules)

pub returns-in-File : goal.returns-in-File
unfolding is_due
returns-in-File c = search (others-halt, rules)

pub returns-in_default : goal.returns-in_default
returns-in_default c = search (others-halt, rules)
