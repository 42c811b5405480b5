-- `check_one`: a base alone. Assumes nothing.
use Rattle.fault.proofs.accounts.Parts.{ones}
use Rattle.fault.proofs.accounts.check_one.Goals as goal

pub returns : goal.returns
returns c = search ones

pub returns-in_default : goal.returns-in_default
returns-in_default c = search ones
