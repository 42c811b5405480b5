-- `item_at`: its words, in three parts, and its reference. Assumes nothing.
use Rattle.rows.proofs.read.Words.{parts}
use Rattle.rows.proofs.read.item_at.Goals as goal

pub returns : goal.returns
returns c = search parts
