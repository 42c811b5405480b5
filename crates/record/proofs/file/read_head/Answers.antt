-- `read_head`: an exit for an account that is refused, one for each pair of numbers, and one where all is read. Assumes nothing.
use Rattle.std.proofs.lemmas.Result.{err_from_is_err_and}
use Rattle.record.proofs.file.Readings.{heads}
use Rattle.record.proofs.file.read_head.Goals as goal

pub returns-in_err-account-clause-result_value : goal.returns-in_err-account-clause-result_value
returns-in_err-account-clause-result_value c =
    let p = err_from_is_err_and c.from_residual.result c.from_residual.ensures.1 in
    rw (p.1, p.2) (search (heads, c.in_err-account.was))

pub returns-in_err-balances-clause-result_value : goal.returns-in_err-balances-clause-result_value
returns-in_err-balances-clause-result_value c =
    let p = err_from_is_err_and c.from_residual-in_err-balances.result c.from_residual-in_err-balances.ensures.1 in
    rw (p.1, p.2) (search (heads, c.in_ok-account.was, c.in_err-balances.was))

pub returns-in_err-turnovers-clause-result_value : goal.returns-in_err-turnovers-clause-result_value
returns-in_err-turnovers-clause-result_value c =
    let p = err_from_is_err_and c.from_residual-in_err-turnovers.result c.from_residual-in_err-turnovers.ensures.1 in
    rw (p.1, p.2) (search (heads, c.in_ok-account.was, c.in_ok-balances.was, c.in_err-turnovers.was))

pub returns-clause-result_value : goal.returns-clause-result_value
returns-clause-result_value c = search (heads, c.in_ok-account.was, c.in_ok-balances.was, c.in_ok-turnovers.was)
