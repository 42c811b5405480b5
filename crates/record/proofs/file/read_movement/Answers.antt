-- `read_movement`: an exit for each field that is refused, and one where all is read. Assumes nothing.
use Rattle.std.proofs.lemmas.Result.{err_from_is_err_and}
use Rattle.record.proofs.file.Readings.{movements}
use Rattle.record.proofs.file.read_movement.Goals as goal

pub returns-in_err-own-clause-result_value : goal.returns-in_err-own-clause-result_value
returns-in_err-own-clause-result_value c =
    let p = err_from_is_err_and c.from_residual.result c.from_residual.ensures.1 in
    rw (p.1, p.2) (search (movements, c.in_err-own.was))

pub returns-in_err-other-clause-result_value : goal.returns-in_err-other-clause-result_value
returns-in_err-other-clause-result_value c =
    let p = err_from_is_err_and c.from_residual-in_err-other.result c.from_residual-in_err-other.ensures.1 in
    rw (p.1, p.2) (search (movements, c.in_ok-own.was, c.in_err-other.was))

pub returns-in_default-clause-result_value : goal.returns-in_default-clause-result_value
returns-in_default-clause-result_value c = search (movements, c.in_ok-own.was, c.in_ok-other.was)

pub returns-in_err-code-clause-result_value : goal.returns-in_err-code-clause-result_value
returns-in_err-code-clause-result_value c =
    let p = err_from_is_err_and c.from_residual-in_err-code.result c.from_residual-in_err-code.ensures.1 in
    rw (p.1, p.2) (search (movements, c.in_ok-own.was, c.in_ok-other.was, c.in_err-code.was))

pub returns-in_default-digits_at-clause-result_value : goal.returns-in_default-digits_at-clause-result_value
returns-in_default-digits_at-clause-result_value c = search (movements, c.in_ok-own.was, c.in_ok-other.was, c.in_ok-code.was)

pub returns-clause-result_value : goal.returns-clause-result_value
returns-clause-result_value c = search (movements, c.in_ok-own.was, c.in_ok-other.was, c.in_ok-code.was)

pub returns-clause-small_movement_read : goal.returns-clause-small_movement_read
returns-clause-small_movement_read c = search movements
