-- `ends` meets its contract. Assumes nothing.
use Rattle.numeral.proofs.field.Turns.{stops}
use Rattle.numeral.proofs.field.ends.Goals as goal

pub returns-then-s-at : goal.returns-then-s-at
returns-then-s-at c = search stops

pub returns : goal.returns
returns c = search stops
