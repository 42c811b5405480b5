-- `text::span::one_part` meets its contract. Assumes nothing.
use Rattle.text.proofs.span.Turns.{one-gathered}
use Rattle.text.proofs.span.one_part.Goals as goal

pub returns : goal.returns
returns c = search one-gathered
