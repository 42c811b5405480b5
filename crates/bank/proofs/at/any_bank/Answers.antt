-- `any_bank` meets its contract: a number that is read on. Assumes nothing.
use Rattle.std.proofs.lemmas.Result.{err_from_is_err_and}
use Rattle.numeral.proofs.field.Onward.{onwards}
use Rattle.bank.proofs.at.Exits.{bank-field}
use Rattle.bank.proofs.at.any_bank.Goals as goal

pub returns-in_err-digits : goal.returns-in_err-digits
returns-in_err-digits c =
    let p = err_from_is_err_and c.from_residual.result c.from_residual.ensures.1 in
    rw (p.1, p.2) (search (bank-field, onwards, c.in_err-digits.was))

pub returns-then-n-eq0 : goal.returns-then-n-eq0
returns-then-n-eq0 c = search (bank-field, onwards, c.in_ok-digits.was)

pub returns-then-n-gt999999999 : goal.returns-then-n-gt999999999
returns-then-n-gt999999999 c = search (bank-field, onwards, c.in_ok-digits.was)

pub returns : goal.returns
returns c = search (bank-field, onwards, c.in_ok-digits.was)
