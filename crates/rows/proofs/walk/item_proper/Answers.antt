-- `item_proper` meets its contract: whether an item may come here, then its fields. Assumes nothing.
use borrow.Author.Rules.{rules}
use Rattle.std.proofs.lemmas.Result.{err_from_is_err_and}
use Rattle.rows.proofs.walk.Steps.{steps, fits}
use Rattle.rows.proofs.walk.item_proper.Goals as goal

pub returns-then-not-item_due : goal.returns-then-not-item_due
returns-then-not-item_due c = search steps

pub returns-in_err-item_check : goal.returns-in_err-item_check
returns-in_err-item_check c =
    let p = err_from_is_err_and c.from_residual.result c.from_residual.ensures.1 in
    rw (p.1, p.2) (search (steps, c.in_err-item_check.was))

pub overflow_add-result : goal.overflow_add-result
overflow_add-result c = search (fits, rules)

pub overflow_add-result-2 : goal.overflow_add-result-2
overflow_add-result-2 c = search (fits, rules, c.in_ok-item_check.was)

pub returns : goal.returns
returns c = search (steps, c.in_ok-item_check.was)
