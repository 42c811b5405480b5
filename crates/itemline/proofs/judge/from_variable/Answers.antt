-- `from_variable`: the variable symbol, and what follows it. Assumes nothing.
use Rattle.std.proofs.lemmas.Result.{err_from_is_err_and}
use Rattle.itemline.proofs.judge.Steps.{items}
use Rattle.itemline.proofs.judge.from_variable.Goals as goal

pub returns-in_err-end : goal.returns-in_err-end
returns-in_err-end c =
    let p = err_from_is_err_and c.from_residual.result c.from_residual.ensures.1 in
    rw (p.1, p.2) (search (items, c.in_err-end.was) depth 12)

pub returns-then-s-end : goal.returns-then-s-end
returns-then-s-end c = search (items, c.in_ok-end.was) depth 12

pub returns : goal.returns
returns c = search (items, c.in_ok-end.was) depth 12
