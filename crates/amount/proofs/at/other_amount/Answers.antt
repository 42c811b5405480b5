-- `other_amount` meets its contract: the whole field, read on. Assumes nothing.
use Rattle.std.proofs.lemmas.Result.{err_from_is_err_and}
use Rattle.numeral.proofs.field.Onward.{onwards}
use Rattle.amount.proofs.at.Exits.{item-field}
use Rattle.amount.proofs.at.other_amount.Goals as goal

pub returns-in_err-amount : goal.returns-in_err-amount
returns-in_err-amount c =
    let p = err_from_is_err_and c.from_residual.result c.from_residual.ensures.1 in
    rw (p.1, p.2) (search (item-field, onwards, c.in_err-amount.was))

pub returns : goal.returns
returns c = search (item-field, onwards, c.in_ok-amount.was)
