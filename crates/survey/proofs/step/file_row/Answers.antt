-- `file_row`: by the answer of the row's tests. Assumes nothing.
use borrow.Author.Rules.{rules}
use Rattle.std.proofs.lemmas.Result.{err_from_is_err_and}
use Rattle.rows.proofs.walk.Passed.{walks-on}
use Rattle.survey.proofs.step.Rows.{stepping}
use Rattle.survey.proofs.step.file_row.Goals as goal

pub behind_file-requires : goal.behind_file-requires
behind_file-requires c = search (walks-on, rules, c.in_ok-next.was)

pub returns-in_err-next : goal.returns-in_err-next
returns-in_err-next c =
    let p = err_from_is_err_and c.from_residual.result c.from_residual.ensures.1 in
    rw (p.1, p.2) (search (stepping, c.in_err-next.was))

pub returns : goal.returns
returns c = search (stepping, c.in_ok-next.was)
