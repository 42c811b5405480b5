-- `walk_code`: BANK, and nothing behind it. Assumes nothing.
use borrow.Author.Rules.{rules}
use Rattle.std.proofs.lemmas.Result.{err_from_is_err_and}
use Rattle.why.specs.Names.{field_number}
use Rattle.why.specs.Fields.{rules_of}
use Rattle.fault.proofs.line.Steps.{steps}
use Rattle.fault.proofs.line.walk_code.Goals as goal

pub slice_bounds-check_code-end : goal.slice_bounds-check_code-end
slice_bounds-check_code-end c = search (steps, rules)

pub returns-then-end-s : goal.returns-then-end-s
unfolding rules_of field_number
returns-then-end-s c = search (steps, c.in_ok-in_line.was)

pub returns-in_err-in_line : goal.returns-in_err-in_line
unfolding rules_of field_number
returns-in_err-in_line c =
    let p = err_from_is_err_and c.from_residual.result c.from_residual.ensures.1 in
    rw (p.1, p.2) (search (steps, c.in_err-in_line.was))

pub returns : goal.returns
unfolding rules_of field_number
returns c = search (steps, c.in_ok-in_line.was)
