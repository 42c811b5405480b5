-- `by_count`: by the test of its count. Assumes nothing.
use Rattle.base.proofs.Cases.{picks}
use Rattle.found.proofs.by_count.Goals as goal

pub returns-then-n-eq0 : goal.returns-then-n-eq0
returns-then-n-eq0 c = search picks

pub returns : goal.returns
returns c = search picks
