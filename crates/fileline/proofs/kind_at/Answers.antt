-- `kind_at` meets its contract: a number that is read on. Assumes nothing.
use Rattle.std.proofs.lemmas.Result.{err_from_is_err_and}
use Rattle.numeral.proofs.field.Onward.{onwards}
use Rattle.fileline.proofs.Fields.{fields}
use Rattle.fileline.proofs.kind_at.Goals as goal

pub returns-in_err-kind : goal.returns-in_err-kind
returns-in_err-kind c =
    let p = err_from_is_err_and c.from_residual.result c.from_residual.ensures.1 in
    rw (p.1, p.2) (search (fields, onwards, c.in_err-kind.was))

pub returns-then-kind_allowed : goal.returns-then-kind_allowed
returns-then-kind_allowed c = search (fields, onwards, c.in_ok-kind.was)

pub returns : goal.returns
returns c = search (fields, onwards, c.in_ok-kind.was)
