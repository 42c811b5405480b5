-- `short_day`: the day that a short date spells, real or not. Assumes nothing.
use Rattle.std.proofs.lemmas.Result.{err_from_is_err_and}
use Rattle.fault.proofs.due.Days.{shorts}
use Rattle.fault.proofs.due.short_day.Goals as goal

pub returns-in_err-n : goal.returns-in_err-n
returns-in_err-n c =
    let p = err_from_is_err_and c.from_residual.result c.from_residual.ensures.1 in
    rw (p.1, p.2) (search (shorts, c.in_err-n.was))

pub returns : goal.returns
returns c = search (shorts, c.in_ok-n.was)
