-- `code_and_end` meets its contract: each answer by the steps of the line. Assumes nothing.
use Rattle.std.proofs.lemmas.Result.{err_from_is_err_and}
use Rattle.numeral.proofs.field.Steps.{steps}
use Rattle.fileline.proofs.code_and_end.Goals as goal

pub returns-in_err-code : goal.returns-in_err-code
returns-in_err-code c =
    let p = err_from_is_err_and c.from_residual.result c.from_residual.ensures.1 in
    rw (p.1, p.2) (search (steps, c.in_err-code.was) depth 12)

pub returns-then-code-s : goal.returns-then-code-s
returns-then-code-s c = search (steps, c.in_ok-code.was) depth 12

pub returns : goal.returns
returns c = search (steps, c.in_ok-code.was) depth 12
