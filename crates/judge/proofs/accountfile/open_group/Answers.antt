-- `open_group` meets its contract: the line refused, or the group read whole. Assumes nothing.
use Rattle.std.proofs.lemmas.Result.{err_from_is_err_and}
use Rattle.judge.proofs.accountfile.Groups.{group_lines}
use Rattle.judge.proofs.accountfile.open_group.Goals as goal

pub returns-in_err-held : goal.returns-in_err-held
returns-in_err-held c =
    let p = err_from_is_err_and c.from_residual.result c.from_residual.ensures.1 in
    rw (p.1, p.2) (search (group_lines, c.in_err-held.was))

pub returns : goal.returns
returns c = search (group_lines, c.in_ok-held.was)
