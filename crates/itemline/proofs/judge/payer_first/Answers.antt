-- `payer_first`: the payer where the group is single. Assumes nothing.
use Rattle.std.proofs.lemmas.Result.{err_from_is_err_and}
use Rattle.itemline.specs.Walk.{payer_first}
use Rattle.itemline.specs.judge.Brief.{any_payer}
use Rattle.itemline.proofs.judge.Steps.{items}
use Rattle.itemline.proofs.judge.payer_first.Goals as goal

pub returns-in_err-end-clause-by_index : goal.returns-in_err-end-clause-by_index
returns-in_err-end-clause-by_index c =
    let p = err_from_is_err_and c.from_residual.result c.from_residual.ensures.1 in
    λ k. rw (p.1, p.2) (search (items, c.in_err-end.was) depth 12)

pub returns-then-s-end-clause-by_index : goal.returns-then-s-end-clause-by_index
returns-then-s-end-clause-by_index c = λ k. search (items, c.in_ok-end.was) depth 12

pub returns-then-single-clause-by_index : goal.returns-then-single-clause-by_index
returns-then-single-clause-by_index c = λ k. search (items, c.in_ok-end.was) depth 12

pub returns-clause-by_index : goal.returns-clause-by_index
unfolding payer_first any_payer
returns-clause-by_index c = λ k. search items depth 12
