-- `group_proper` meets its contract: whether a group may come here, then its fields. Assumes nothing.
use Rattle.std.proofs.lemmas.Result.{err_from_is_err_and}
use Rattle.rows.proofs.walk.Steps.{steps}
use Rattle.rows.proofs.walk.group_proper.Goals as goal

pub returns-then-not-group_due : goal.returns-then-not-group_due
returns-then-not-group_due c = search steps

pub returns-in_err-group_check : goal.returns-in_err-group_check
returns-in_err-group_check c =
    let p = err_from_is_err_and c.from_residual.result c.from_residual.ensures.1 in
    rw (p.1, p.2) (search (steps, c.in_err-group_check.was))

pub returns : goal.returns
returns c = search (steps, c.in_ok-group_check.was)
