-- `to_next`: what is told of a field and the space behind it. Assumes nothing.
use Rattle.std.proofs.lemmas.Result.{err_from_is_err_and}
use Rattle.fault.proofs.line.Next.{telling}
use Rattle.fault.proofs.line.to_next.Goals as goal

pub returns-in_err-in_line : goal.returns-in_err-in_line
returns-in_err-in_line c =
    let p = err_from_is_err_and c.from_residual.result c.from_residual.ensures.1 in
    rw (p.1, p.2) (search (telling, c.in_err-in_line.was))

pub returns-then-end-n : goal.returns-then-end-n
returns-then-end-n c = search (telling, c.in_ok-in_line.was)

pub returns : goal.returns
returns c = search (telling, c.in_ok-in_line.was)
