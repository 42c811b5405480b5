-- `judge_item`: the line in pieces is document 01's, but for the values left out. Assumes nothing.
use Rattle.std.proofs.lemmas.Result.{err_from_is_err_and}
use Rattle.itemline.proofs.judge.Steps.{items}
use Rattle.itemline.proofs.judge.judge_item.Goals as goal

pub returns-in_err-at : goal.returns-in_err-at
returns-in_err-at c =
    let p = err_from_is_err_and c.from_residual.result c.from_residual.ensures.1 in
    rw (p.1, p.2) (search (items, c.in_err-at.was) depth 12)

pub returns-in_err-end : goal.returns-in_err-end
returns-in_err-end c =
    let p = err_from_is_err_and c.from_residual-in_err-end.result c.from_residual-in_err-end.ensures.1 in
    rw (p.1, p.2) (search (items, c.in_ok-at.was, c.in_err-end.was) depth 12)

pub returns-then-s-end : goal.returns-then-s-end
returns-then-s-end c = search (items, c.in_ok-at.was, c.in_ok-end.was) depth 12

pub returns : goal.returns
returns c = search (items, c.in_ok-at.was, c.in_ok-end.was) depth 12
