-- `total_differs`: by the one test. Assumes nothing.
use Rattle.base.proofs.Cases.{picks}
use Rattle.paper.specs.Spells.{differs}
use Rattle.judge.proofs.group.total_differs.Goals as goal

pub returns-then-total-sum : goal.returns-then-total-sum
unfolding differs
returns-then-total-sum c = search picks

pub returns : goal.returns
unfolding differs
returns c = search picks
