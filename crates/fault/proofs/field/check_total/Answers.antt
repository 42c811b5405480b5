-- `check_total`: TOTAL: an amount of up to 14 digits. Assumes nothing.
use Rattle.fault.proofs.field.Rulings.{totals}
use Rattle.fault.proofs.field.check_total.Goals as goal

pub returns : goal.returns
returns c = search totals

pub returns-in_default : goal.returns-in_default
returns-in_default c = search totals
