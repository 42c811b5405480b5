-- `check_payer`: a group's payer: none where the field is empty (`empty`) or has only zeros (`allzero`), else an account. Assumes nothing.
use borrow.Author.Rules.{rules}
use Rattle.fault.proofs.accounts.Parts.{payers}
use Rattle.fault.proofs.accounts.check_payer.Goals as goal

pub returns-then-f-eq0 : goal.returns-then-f-eq0
returns-then-f-eq0 c = search payers

pub check_stated-requires : goal.check_stated-requires
check_stated-requires c = search (payers, rules)

pub check_stated-requires-2 : goal.check_stated-requires-2
check_stated-requires-2 c = search (payers, rules)
