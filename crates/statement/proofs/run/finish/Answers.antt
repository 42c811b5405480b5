-- `finish`: no record is left, so the open statement is over. Assumes nothing.
use Rattle.std.proofs.lemmas.Result.{err_from_is_err_and}
use Rattle.statement.proofs.run.Leading.{ending}
use Rattle.statement.proofs.run.finish.Goals as goal

pub returns-in_default : goal.returns-in_default
returns-in_default c = search ending

pub returns-in_err-close : goal.returns-in_err-close
returns-in_err-close c =
    let p = err_from_is_err_and c.from_residual.result c.from_residual.ensures.1 in
    rw (p.1, p.2) (search (ending, c.in_err-close.was))

pub returns : goal.returns
returns c = search (ending, c.in_ok-close.was)
