-- `Sheet::bank_allowed` answers as its definition does.
use Rattle.sheet.proofs.Allowed.{allowances}
use Rattle.sheet.proofs.Sheet.bank_allowed.Goals as goal

pub returns-then-self : goal.returns-then-self
returns-then-self c = search allowances

pub returns : goal.returns
returns c = search allowances
