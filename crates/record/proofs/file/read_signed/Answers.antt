-- `read_signed`: an exit for digits that are refused, one for each sign, and one for a byte that is neither. Assumes nothing.
use Rattle.record.proofs.file.Signs.{signing}
use Rattle.record.proofs.file.read_signed.Goals as goal

pub returns-in_default : goal.returns-in_default
returns-in_default c = search signing

pub returns-then-sign-eq45 : goal.returns-then-sign-eq45
returns-then-sign-eq45 c = search signing

pub returns-then-sign-plus : goal.returns-then-sign-plus
returns-then-sign-plus c = search signing

pub returns : goal.returns
returns c = search signing
