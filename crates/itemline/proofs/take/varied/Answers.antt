-- `varied` meets its contract. Assumes nothing.
use Rattle.base.proofs.Cases.{picks}
use Rattle.itemline.proofs.take.varied.Goals as goal

pub returns-then-names : goal.returns-then-names
returns-then-names c = search (picks)

pub returns : goal.returns
returns c = search (picks)
