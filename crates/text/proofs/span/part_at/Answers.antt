-- `text::span::part_at` meets its contract. Assumes nothing.
use Rattle.text.proofs.span.Turns.{pieces}
use Rattle.text.proofs.span.part_at.Goals as goal

pub returns-then-from-m : goal.returns-then-from-m
returns-then-from-m c = search pieces

pub returns-then-end-m : goal.returns-then-end-m
returns-then-end-m c = search pieces

pub returns : goal.returns
returns c = search pieces
