-- `file_proper` meets its contract: whether an account file may come here, then its fields. Assumes nothing.
use borrow.Author.Rules.{rules}
use Rattle.std.proofs.lemmas.Result.{err_from_is_err_and}
use Rattle.rows.proofs.walk.Steps.{steps, fits}
use Rattle.rows.proofs.walk.file_proper.Goals as goal

pub returns-then-not-file_due : goal.returns-then-not-file_due
returns-then-not-file_due c = search steps

pub returns-in_err-file_check : goal.returns-in_err-file_check
returns-in_err-file_check c =
    let p = err_from_is_err_and c.from_residual.result c.from_residual.ensures.1 in
    rw (p.1, p.2) (search (steps, c.in_err-file_check.was))

pub overflow_add-result : goal.overflow_add-result
overflow_add-result c = search (fits, rules)

pub returns : goal.returns
returns c = search (steps, c.in_ok-file_check.was)
