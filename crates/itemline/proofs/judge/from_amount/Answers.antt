-- `from_amount`: the amount, and what follows it. Assumes nothing.
use Rattle.std.proofs.lemmas.Result.{err_from_is_err_and}
use Rattle.itemline.specs.Walk.{spaced, from_amount}
use Rattle.itemline.proofs.judge.Steps.{items}
use Rattle.itemline.proofs.judge.from_amount.Goals as goal

pub returns-in_err-amount : goal.returns-in_err-amount
unfolding from_amount spaced
returns-in_err-amount c =
    let p = err_from_is_err_and c.from_residual.result c.from_residual.ensures.1 in
    rw (p.1, p.2) (search (items, c.in_err-amount.was) depth 12)

pub returns-then-s-amount : goal.returns-then-s-amount
unfolding from_amount spaced
returns-then-s-amount c = search (items, c.in_ok-amount.was) depth 12

pub returns : goal.returns
unfolding from_amount spaced
returns c = search (items, c.in_ok-amount.was) depth 12
