-- `group_carried` meets its contract: the due day's test, where it is judged. Assumes nothing.
use Rattle.base.proofs.Cases.{picks}
use Rattle.paper.specs.Proper.{check}
use Rattle.rows.proofs.carried.Steps.{due-limit}
use Rattle.rows.proofs.carried.group_carried.Goals as goal

pub returns-then-due_allowed : goal.returns-then-due_allowed
unfolding check
returns-then-due_allowed c = λ k rest. search (picks, due-limit) depth 12

pub returns : goal.returns
unfolding check
returns c = λ k rest. search (picks, due-limit) depth 12
