-- `code_at` meets its contract: a number that is read on. Assumes nothing.
use Rattle.std.proofs.lemmas.Result.{err_from_is_err_and}
use Rattle.numeral.proofs.field.Onward.{onwards}
use Rattle.fileline.proofs.Fields.{fields}
use Rattle.fileline.proofs.code_at.Goals as goal

pub returns-in_err-code : goal.returns-in_err-code
returns-in_err-code c =
    let p = err_from_is_err_and c.from_residual.result c.from_residual.ensures.1 in
    rw (p.1, p.2) (search (fields, onwards, c.in_err-code.was))

pub returns-then-bank_allowed : goal.returns-then-bank_allowed
returns-then-bank_allowed c = search (fields, onwards, c.in_ok-code.was)

pub returns : goal.returns
returns c = search (fields, onwards, c.in_ok-code.was)
