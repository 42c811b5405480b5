-- `check_account`: an account: with a dash, joined where the sheet takes that, or a base alone. Assumes nothing.
use Rattle.fault.proofs.accounts.Parts.{splits}
use Rattle.fault.proofs.accounts.check_account.Goals as goal

pub returns-then-d-n : goal.returns-then-d-n
returns-then-d-n c = search splits

pub returns-then-n-gt10 : goal.returns-then-n-gt10
returns-then-n-gt10 c = search splits

pub check_one-requires : goal.check_one-requires
check_one-requires c = record { f_value = search splits; f_value_2 = search splits }

pub check_one-requires-2 : goal.check_one-requires-2
check_one-requires-2 c = record { f_value = search splits; f_value_2 = search splits }
