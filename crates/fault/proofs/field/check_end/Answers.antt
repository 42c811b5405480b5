-- `check_end`: the interval's end: three digits, on K (`ordered`) not below its start. Assumes nothing.
use Rattle.fault.proofs.field.Rulings.{intervals}
use Rattle.fault.proofs.field.check_end.Goals as goal

pub returns-then-end-start : goal.returns-then-end-start
returns-then-end-start c = search intervals

pub returns-else-end-start : goal.returns-else-end-start
returns-else-end-start c = search intervals

pub returns-else-ordered : goal.returns-else-ordered
returns-else-ordered c = search intervals

pub returns-in_default : goal.returns-in_default
returns-in_default c = search intervals
