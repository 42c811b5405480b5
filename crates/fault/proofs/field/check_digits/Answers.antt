-- `check_digits`: `least` to `most` digits. Assumes nothing.
use Rattle.fault.proofs.field.Rulings.{rulings}
use Rattle.fault.proofs.field.check_digits.Goals as goal

pub returns : goal.returns
returns c = search rulings

pub returns-in_default : goal.returns-in_default
returns-in_default c = search rulings
