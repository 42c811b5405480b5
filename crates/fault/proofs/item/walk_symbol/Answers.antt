-- `walk_symbol`: a symbol, and what follows it off S. Assumes nothing.
use borrow.Author.Rules.{rules}
use Rattle.std.proofs.lemmas.Result.{err_from_is_err_and}
use Rattle.why.specs.Names.{field_number}
use Rattle.why.specs.Fields.{rules_of}
use Rattle.fault.proofs.line.Steps.{steps}
use Rattle.fault.proofs.item.Onward.{tails}
use Rattle.fault.proofs.item.walk_symbol.Goals as goal

pub slice_bounds-check_symbol-end : goal.slice_bounds-check_symbol-end
slice_bounds-check_symbol-end c = search (tails, steps, rules)

pub returns-in_err-in_line : goal.returns-in_err-in_line
unfolding rules_of field_number
returns-in_err-in_line c =
    let p = err_from_is_err_and c.from_residual.result c.from_residual.ensures.1 in
    rw (p.1, p.2) (search (tails, steps, c.in_err-in_line.was))

pub returns : goal.returns
unfolding rules_of field_number
returns c = search (tails, steps, c.in_ok-in_line.was)
