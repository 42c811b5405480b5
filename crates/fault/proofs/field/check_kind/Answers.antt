-- `check_kind`: KIND: four digits, one of the sheet's kinds. Assumes nothing.
use Rattle.fault.proofs.field.Rulings.{kinds}
use Rattle.fault.proofs.field.check_kind.Goals as goal

pub returns-then-kind_allowed : goal.returns-then-kind_allowed
returns-then-kind_allowed c = search kinds

pub returns : goal.returns
returns c = search kinds

pub returns-in_default : goal.returns-in_default
returns-in_default c = search kinds
