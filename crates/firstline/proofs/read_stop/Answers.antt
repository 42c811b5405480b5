-- `read_stop` reads the end of the interval and the rest. Assumes nothing.
use Rattle.std.proofs.lemmas.Result.{err_from_is_err_and}
use Rattle.firstline.specs.Stages.{on_to}
use Rattle.firstline.proofs.Steps.{fields}
use Rattle.firstline.proofs.read_stop.Goals as goal

pub returns-then-s-lt46 : goal.returns-then-s-lt46
unfolding on_to
returns-then-s-lt46 c = search fields

pub returns-in_err-to : goal.returns-in_err-to
unfolding on_to
returns-in_err-to c =
    let p = err_from_is_err_and c.from_residual.result c.from_residual.ensures.1 in
    rw (p.1, p.2) (search (fields, c.in_err-to.was))

pub returns-then-rest_taken : goal.returns-then-rest_taken
unfolding on_to
returns-then-rest_taken c = search (fields, c.in_ok-to.was)

pub returns : goal.returns
unfolding on_to
returns c = search (fields, c.in_ok-to.was)
