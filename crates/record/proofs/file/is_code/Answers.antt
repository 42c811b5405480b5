-- `is_code`: one test after another, as its definition has them. Assumes nothing.
use Rattle.base.proofs.Cases.{picks}
use Rattle.gpc.specs.Turnovers.{is_code}
use Rattle.record.proofs.file.is_code.Goals as goal

pub returns-then-c-eq1 : goal.returns-then-c-eq1
unfolding is_code
returns-then-c-eq1 c = search picks

pub returns-then-c-eq2 : goal.returns-then-c-eq2
unfolding is_code
returns-then-c-eq2 c = search picks

pub returns-then-c-eq4 : goal.returns-then-c-eq4
unfolding is_code
returns-then-c-eq4 c = search picks

pub returns : goal.returns
unfolding is_code
returns c = search picks
