-- `check_day`: the creation date: six digits, a real day. Assumes nothing.
use Rattle.fault.proofs.field.Rulings.{dates}
use Rattle.fault.proofs.field.check_day.Goals as goal

pub returns-then-real_day : goal.returns-then-real_day
returns-then-real_day c = search dates

pub returns : goal.returns
returns c = search dates

pub returns-in_default : goal.returns-in_default
returns-in_default c = search dates
