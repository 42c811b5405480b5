-- `text::opens_at` meets its contract. Assumes nothing.
use Rattle.text.proofs.Turns.{openings}
use Rattle.text.proofs.opens_at.Goals as goal

pub returns-then-s-from : goal.returns-then-s-from
returns-then-s-from c = search (openings)

pub returns-then-s-from-eq32 : goal.returns-then-s-from-eq32
returns-then-s-from-eq32 c = search (openings)

pub returns : goal.returns
returns c = search (openings)
