-- `Sheet::kind_allowed` answers as its definition does.
use Rattle.sheet.proofs.Allowed.{allowances}
use Rattle.sheet.proofs.Sheet.kind_allowed.Goals as goal

pub returns-then-kind-kinds : goal.returns-then-kind-kinds
returns-then-kind-kinds c = search allowances

pub returns : goal.returns
returns c = search allowances
