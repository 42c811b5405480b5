-- `stop_of` meets its contract. Assumes nothing.
use Rattle.base.proofs.Cases.{picks}
use Rattle.numeral.proofs.field.stop_of.Goals as goal

pub returns-then-n-at : goal.returns-then-n-at
returns-then-n-at c = search picks

pub returns : goal.returns
returns c = search picks
