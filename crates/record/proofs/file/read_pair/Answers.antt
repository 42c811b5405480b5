-- `read_pair`: an exit for each number that is refused, and one where both are read. Assumes nothing.
use Rattle.std.proofs.lemmas.Result.{err_from_is_err_and}
use Rattle.record.proofs.file.Signs.{pairing}
use Rattle.record.proofs.file.read_pair.Goals as goal

pub returns-in_err-first-clause-result_value : goal.returns-in_err-first-clause-result_value
returns-in_err-first-clause-result_value c =
    let p = err_from_is_err_and c.from_residual.result c.from_residual.ensures.1 in
    rw (p.1, p.2) (search (pairing, c.in_err-first.was))

pub returns-in_err-second-clause-result_value : goal.returns-in_err-second-clause-result_value
returns-in_err-second-clause-result_value c =
    let p = err_from_is_err_and c.from_residual-in_err-second.result c.from_residual-in_err-second.ensures.1 in
    rw (p.1, p.2) (search (pairing, c.in_ok-first.was, c.in_err-second.was))

pub returns-clause-result_value : goal.returns-clause-result_value
returns-clause-result_value c = search (pairing, c.in_ok-first.was, c.in_ok-second.was)
