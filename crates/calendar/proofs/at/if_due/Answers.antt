-- `if_due` meets its contract: the two tests of a day. Assumes nothing.
use Rattle.numeral.proofs.field.Onward.{onwards}
use Rattle.calendar.proofs.at.if_due.Goals as goal

pub returns-then-real_day : goal.returns-then-real_day
returns-then-real_day c = search onwards

pub returns : goal.returns
returns c = search onwards
