-- `check_two`: a prefix of 1 to 6 digits and a base of `few` to 10. Assumes nothing.
use Rattle.fault.proofs.accounts.Parts.{twos}
use Rattle.fault.proofs.accounts.check_two.Goals as goal

pub returns-in_default : goal.returns-in_default
returns-in_default c = search twos

pub returns-in_default-read_digits : goal.returns-in_default-read_digits
returns-in_default-read_digits c = search twos

pub returns : goal.returns
returns c = search twos
