-- `item_check` meets its contract: the stages in their order. Assumes nothing.
use Rattle.std.proofs.lemmas.Result.{err_from_is_err_and}
use Rattle.rows.proofs.proper.Exits.{stages-on}
use Rattle.rows.proofs.proper.item_check.Goals as goal

pub returns-in_err-money_check : goal.returns-in_err-money_check
returns-in_err-money_check c =
    let p = err_from_is_err_and c.from_residual.result c.from_residual.ensures.1 in
    rw (p.1, p.2) (search (stages-on, c.in_err-money_check.was))

pub returns-in_err-symbols_check : goal.returns-in_err-symbols_check
returns-in_err-symbols_check c =
    let p = err_from_is_err_and c.from_residual-in_err-symbols_check.result c.from_residual-in_err-symbols_check.ensures.1 in
    rw (p.1, p.2) (search (stages-on, c.in_ok-money_check.was, c.in_err-symbols_check.was))

pub returns-in_err-texts_check : goal.returns-in_err-texts_check
returns-in_err-texts_check c =
    let p = err_from_is_err_and c.from_residual-in_err-texts_check.result c.from_residual-in_err-texts_check.ensures.1 in
    rw (p.1, p.2) (search (stages-on, c.in_ok-money_check.was, c.in_ok-symbols_check.was, c.in_err-texts_check.was))

pub returns : goal.returns
returns c = search (stages-on, c.in_ok-money_check.was, c.in_ok-symbols_check.was, c.in_ok-texts_check.was)
