-- `whole_group` meets its contract: where reading stands behind the group is what `group_items` answered. Assumes nothing.
use Rattle.std.proofs.lemmas.Result.{err_from_is_err_and}
use Rattle.judge.proofs.accountfile.Groups.{behind-group}
use Rattle.judge.proofs.accountfile.whole_group.Goals as goal

pub returns-in_err-end : goal.returns-in_err-end
returns-in_err-end c =
    let p = err_from_is_err_and c.from_residual.result c.from_residual.ensures.1 in
    rw (p.1, p.2) (search (behind-group, c.in_err-end.was))

pub returns : goal.returns
returns c = search (behind-group, c.in_ok-end.was)
