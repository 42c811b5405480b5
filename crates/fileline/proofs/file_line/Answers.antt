-- `file_line` meets its contract: each answer by the steps of the line. Assumes nothing.
use Rattle.std.proofs.lemmas.Result.{err_from_is_err_and}
use Rattle.numeral.proofs.field.Steps.{steps}
use Rattle.paper.specs.FileLine.{read_file}
use Rattle.fileline.proofs.file_line.Goals as goal

pub returns-in_err-kind : goal.returns-in_err-kind
unfolding read_file
returns-in_err-kind c =
    let p = err_from_is_err_and c.from_residual.result c.from_residual.ensures.1 in
    rw (p.1, p.2) (search (steps, c.in_err-kind.was) depth 12)

pub returns-then-s-kind : goal.returns-then-s-kind
unfolding read_file
returns-then-s-kind c = search (steps, c.in_ok-kind.was) depth 12

pub returns-in_err-serial : goal.returns-in_err-serial
unfolding read_file
returns-in_err-serial c =
    let p = err_from_is_err_and c.from_residual-in_err-serial.result c.from_residual-in_err-serial.ensures.1 in
    rw (p.1, p.2) (search (steps, c.in_ok-kind.was, c.in_err-serial.was) depth 12)

pub returns-then-s-serial : goal.returns-then-s-serial
unfolding read_file
returns-then-s-serial c = search (steps, c.in_ok-kind.was, c.in_ok-serial.was) depth 12

pub returns : goal.returns
unfolding read_file
returns c = search (steps, c.in_ok-kind.was, c.in_ok-serial.was) depth 12
