-- `more_or_end`: by the tests of the kind and of the count. Assumes nothing.
use Rattle.base.proofs.Cases.{picks}
use Rattle.scan.proofs.kind.Same.{tested-is}
use Rattle.found.proofs.more_or_end.Goals as goal

pub returns-then-eq : goal.returns-then-eq
returns-then-eq c = search (picks, tested-is)

pub returns-then-some-eq0 : goal.returns-then-some-eq0
returns-then-some-eq0 c = search (picks, tested-is)

pub returns-then-eq-2 : goal.returns-then-eq-2
returns-then-eq-2 c = search (picks, tested-is)

pub returns : goal.returns
returns c = search (picks, tested-is)
