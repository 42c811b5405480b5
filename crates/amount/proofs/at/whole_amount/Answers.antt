-- `whole_amount` meets its contract: the field by its bytes. Assumes nothing.
use borrow.Author.Rules.{rules}
use Rattle.std.proofs.lemmas.Result.{err_from_is_err_and}
use Rattle.scan.proofs.line.Fields.{end-within}
use Rattle.numeral.proofs.field.Whole.{wholes}
use Rattle.amount.proofs.at.whole_amount.Goals as goal

pub slice_bounds-read_amount-end : goal.slice_bounds-read_amount-end
slice_bounds-read_amount-end c = search (end-within, rules)

pub returns-in_err-value : goal.returns-in_err-value
returns-in_err-value c =
    let p = err_from_is_err_and c.from_residual.result c.from_residual.ensures.1 in
    rw (p.1, p.2) (search (wholes, c.in_err-value.was))

pub returns : goal.returns
returns c = search (wholes, c.in_ok-value.was)
