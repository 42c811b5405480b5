-- `Signed::of` meets its contract: minus before zero is zero. Assumes nothing.
use Rattle.turnover.proofs.signed.Signs.{readings}
use Rattle.turnover.proofs.signed.Signed.of.Goals as goal

pub returns-then-size-eq0 : goal.returns-then-size-eq0
returns-then-size-eq0 c = search readings

pub returns : goal.returns
returns c = search readings
