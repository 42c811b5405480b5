-- `check_due`: DATE: a day that is spelled, real, and among the sheet's days. Assumes nothing.
use Rattle.fault.proofs.due.Days.{dues}
use Rattle.fault.proofs.due.check_due.Goals as goal

pub returns-then-real_day : goal.returns-then-real_day
returns-then-real_day c = search dues

pub returns : goal.returns
returns c = search dues

pub returns-in_default : goal.returns-in_default
returns-in_default c = search dues
