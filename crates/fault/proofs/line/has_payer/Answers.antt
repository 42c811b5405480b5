-- `has_payer`: whether the line has its payer's field: always (`always`), or where it has three spaces or more. Assumes nothing.
use Rattle.fault.proofs.line.Onward.{payers}
use Rattle.fault.proofs.line.has_payer.Goals as goal

pub returns-then-always : goal.returns-then-always
returns-then-always c = search payers

pub returns : goal.returns
returns c = search payers
