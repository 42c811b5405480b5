-- `text::span::gather` meets its contract. Assumes nothing.
use Rattle.text.proofs.span.Turns.{gathered}
use Rattle.text.proofs.span.gather.Goals as goal

pub returns : goal.returns
returns c = search (gathered)
