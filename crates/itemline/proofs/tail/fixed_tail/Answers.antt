-- `fixed_tail`: both spaces stand, the symbol may be empty. Assumes nothing.
use Rattle.std.proofs.lemmas.Result.{err_from_is_err_and}
use Rattle.paper.specs.ItemLine.{fixed_tail}
use Rattle.itemline.proofs.tail.Tails.{tails}
use Rattle.itemline.proofs.tail.fixed_tail.Goals as goal

pub returns-then-s-at-clause-k_value : goal.returns-then-s-at-clause-k_value
unfolding fixed_tail
returns-then-s-at-clause-k_value c = λ y k. search tails depth 8

pub returns-in_err-symbol-clause-k_value : goal.returns-in_err-symbol-clause-k_value
unfolding fixed_tail
returns-in_err-symbol-clause-k_value c =
    let p = err_from_is_err_and c.from_residual.result c.from_residual.ensures.1 in
    λ y k. rw (p.1, p.2) (search (tails, c.in_err-symbol.was) depth 8)

pub returns-then-s-symbol-clause-k_value : goal.returns-then-s-symbol-clause-k_value
unfolding fixed_tail
returns-then-s-symbol-clause-k_value c = λ y k. search (tails, c.in_ok-symbol.was) depth 8

pub returns-clause-k_value : goal.returns-clause-k_value
unfolding fixed_tail
returns-clause-k_value c = λ y k. search (tails, c.in_ok-symbol.was) depth 8
