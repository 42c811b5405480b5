-- `from_group` meets its contract: a group begins, the account file closes, or judging halts at each other kind of line. Assumes nothing.
use borrow.Author.Rules.{rules}
use Rattle.base.specs.Pick.{pick}
use Rattle.tally.specs.Tally.{is_due}
use Rattle.course.proofs.line.Leading.{others-halt}
use Rattle.course.proofs.line.from_group.Goals as goal

pub kind_of-requires : goal.kind_of-requires
kind_of-requires c = search (others-halt, rules)

pub open_group-requires : goal.open_group-requires
open_group-requires c = record { today_value = search rules; low_group = search rules; at_le_stop = (search (others-halt, rules), search (others-halt, rules)); f_value = search (others-halt, rules) }

pub close_file-requires : goal.close_file-requires
close_file-requires c = search (others-halt, rules)

pub returns-in-Group : goal.returns-in-Group
unfolding is_due pick
returns-in-Group c = search (others-halt, rules)

pub returns-in-FileEnd : goal.returns-in-FileEnd
unfolding is_due pick
returns-in-FileEnd c = search (others-halt, rules)

pub returns-in_default : goal.returns-in_default
returns-in_default c = search (others-halt, rules)
