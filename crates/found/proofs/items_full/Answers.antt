-- `items_full`: by the tests of the kind and of two counts. Assumes nothing.
use Rattle.base.proofs.Cases.{picks}
use Rattle.scan.proofs.kind.Same.{tested-is}
use Rattle.found.proofs.items_full.Goals as goal

pub returns-then-inside-ge99999 : goal.returns-then-inside-ge99999
returns-then-inside-ge99999 c = search (picks, tested-is)

pub returns-then-eq : goal.returns-then-eq
returns-then-eq c = search (picks, tested-is)

pub returns : goal.returns
returns c = search (picks, tested-is)
