-- `read_date` reads from the date on. Assumes nothing.
use Rattle.std.proofs.lemmas.Result.{err_from_is_err_and}
use Rattle.firstline.specs.Stages.{on_date}
use Rattle.firstline.proofs.Steps.{fields}
use Rattle.firstline.proofs.read_date.Goals as goal

pub returns-then-s-lt10 : goal.returns-then-s-lt10
unfolding on_date
returns-then-s-lt10 c = search fields

pub returns-in_err-date : goal.returns-in_err-date
unfolding on_date
returns-in_err-date c =
    let p = err_from_is_err_and c.from_residual.result c.from_residual.ensures.1 in
    rw (p.1, p.2) (search (fields, c.in_err-date.was))

pub returns : goal.returns
unfolding on_date
returns c = search (fields, c.in_ok-date.was)
