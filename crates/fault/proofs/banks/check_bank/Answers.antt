-- `check_bank`: the bank field: eight to ten digits, a bank that is not 0000, the tenth digit 0, the ninth too but on K, and the bank's term. Assumes nothing.
use Rattle.fault.proofs.banks.Terms.{banks}
use Rattle.fault.proofs.banks.check_bank.Goals as goal

pub returns-then-bank-eq0 : goal.returns-then-bank-eq0
returns-then-bank-eq0 c = search banks

pub returns-then-n-gt999999999 : goal.returns-then-n-gt999999999
returns-then-n-gt999999999 c = search banks

pub returns-then-ninth_zero : goal.returns-then-ninth_zero
returns-then-ninth_zero c = search banks

pub returns : goal.returns
returns c = search banks

pub returns-in_default : goal.returns-in_default
returns-in_default c = search banks
