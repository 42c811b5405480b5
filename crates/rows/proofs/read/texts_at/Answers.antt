-- `texts_at`: its texts, one call each. Assumes nothing.
use Rattle.rows.proofs.read.Words.{parts}
use Rattle.rows.proofs.read.texts_at.Goals as goal

pub returns : goal.returns
returns c = search parts
