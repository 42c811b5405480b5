-- `check_code`: BANK: four digits, the sheet's bank. Assumes nothing.
use Rattle.fault.proofs.field.Rulings.{codes}
use Rattle.fault.proofs.field.check_code.Goals as goal

pub returns-then-bank_allowed : goal.returns-then-bank_allowed
returns-then-bank_allowed c = search codes

pub returns : goal.returns
returns c = search codes

pub returns-in_default : goal.returns-in_default
returns-in_default c = search codes
