-- `check_stated`: a group's payer whose field is not empty, or may not be: zeros where they make the group single, else an account. Assumes nothing.
use Rattle.fault.proofs.accounts.Parts.{payers}
use Rattle.fault.proofs.accounts.check_stated.Goals as goal

pub returns-then-only_zeros : goal.returns-then-only_zeros
returns-then-only_zeros c = search payers

pub returns : goal.returns
returns c = search payers
