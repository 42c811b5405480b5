-- `is_single` goes by the payer that is taken. Assumes nothing.
use Rattle.tracing.proofs.warnings.Puts.{single-is}
use Rattle.tracing.proofs.warnings.is_single.Goals as goal

pub returns : goal.returns
returns c = search single-is
