-- `judge_rows`: the rows passed lead to a stage from which all comes to the same. Assumes nothing.
use borrow.Author.Rules.{rules}
use Rattle.std.proofs.lemmas.Result.{err_from_is_err_and}
use Rattle.statement.proofs.writing.Judging.{judging}
use Rattle.statement.proofs.writing.judge_rows.Goals as goal

pub loop-at-init : goal.loop-at-init
loop-at-init c = search (judging, rules)

pub returns-in_err-next : goal.returns-in_err-next
returns-in_err-next c =
    let p = err_from_is_err_and c.from_residual.result c.from_residual.ensures.1 in
    rw (p.1, p.2) (search (judging, c.in_err-next.was))

pub loop-at-preserved : goal.loop-at-preserved
loop-at-preserved c = search (judging, rules, c.in_ok-next.was)

pub returns-then-at-rows : goal.returns-then-at-rows
returns-then-at-rows c = search judging

pub returns : goal.returns
returns c = search judging
