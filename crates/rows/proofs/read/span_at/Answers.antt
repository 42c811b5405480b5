-- `span_at` meets its contract: two words. Assumes nothing.
use Rattle.rows.proofs.read.Words.{parts}
use Rattle.rows.proofs.read.span_at.Goals as goal

pub returns : goal.returns
returns c = search parts
