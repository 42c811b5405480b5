-- `if_allowed` meets its contract: the test of a due day. Assumes nothing.
use Rattle.numeral.proofs.field.Onward.{onwards}
use Rattle.calendar.proofs.at.if_allowed.Goals as goal

pub returns-then-due_allowed : goal.returns-then-due_allowed
returns-then-due_allowed c = search onwards

pub returns : goal.returns
returns c = search onwards
