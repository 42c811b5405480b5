-- `symbols_at`: its words, one call each. Assumes nothing.
use Rattle.rows.proofs.read.Words.{parts}
use Rattle.rows.proofs.read.symbols_at.Goals as goal

pub returns : goal.returns
returns c = search parts
