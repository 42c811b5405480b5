-- `read_start` reads from the start of the interval on. Assumes nothing.
use Rattle.std.proofs.lemmas.Result.{err_from_is_err_and}
use Rattle.firstline.specs.Stages.{on_from}
use Rattle.firstline.proofs.Steps.{fields}
use Rattle.firstline.proofs.read_start.Goals as goal

pub returns-then-s-lt43 : goal.returns-then-s-lt43
unfolding on_from
returns-then-s-lt43 c = search fields

pub returns-in_err-from : goal.returns-in_err-from
unfolding on_from
returns-in_err-from c =
    let p = err_from_is_err_and c.from_residual.result c.from_residual.ensures.1 in
    rw (p.1, p.2) (search (fields, c.in_err-from.was))

pub returns : goal.returns
unfolding on_from
returns c = search (fields, c.in_ok-from.was)
