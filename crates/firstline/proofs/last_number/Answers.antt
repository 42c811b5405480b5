-- `last_number` reads the end of the interval by itself. Assumes nothing.
use Rattle.std.proofs.lemmas.Result.{err_from_is_err_and}
use Rattle.paper.specs.FirstLine.{read_to}
use Rattle.firstline.proofs.Steps.{rests}
use Rattle.firstline.proofs.last_number.Goals as goal

pub returns-in_err-to : goal.returns-in_err-to
unfolding read_to
returns-in_err-to c =
    let p = err_from_is_err_and c.from_residual.result c.from_residual.ensures.1 in
    rw (p.1, p.2) (search (rests, c.in_err-to.was))

pub returns-then-to-from : goal.returns-then-to-from
unfolding read_to
returns-then-to-from c = search (rests, c.in_ok-to.was)

pub returns-else-to-from : goal.returns-else-to-from
unfolding read_to
returns-else-to-from c = search (rests, c.in_ok-to.was)

pub returns-else-ordered : goal.returns-else-ordered
unfolding read_to
returns-else-ordered c = search (rests, c.in_ok-to.was)
