-- `check_marked`: its start, and what follows that. Assumes nothing.
use borrow.Author.Rules.{rules}
use Rattle.fault.proofs.texts.Marks.{begun}
use Rattle.fault.proofs.texts.check_marked.Goals as goal

pub check_named-requires : goal.check_named-requires
check_named-requires c = search (begun, rules)

pub check_message-requires : goal.check_message-requires
check_message-requires c = search (begun, rules)

pub check_message-requires-then-may : goal.check_message-requires-then-may
check_message-requires-then-may c = record { f_value = search begun; f_value_2 = search begun; f_value_3 = search begun; from_in_bounds = search begun }

pub returns : goal.returns
returns c = search begun
