-- `walk_amount`: the amount and what follows it. Assumes nothing.
use borrow.Author.Rules.{rules}
use Rattle.std.proofs.lemmas.Result.{err_from_is_err_and}
use Rattle.why.specs.Names.{field_number}
use Rattle.why.specs.Fields.{rules_of}
use Rattle.fault.proofs.line.Steps.{field_in}
use Rattle.fault.proofs.line.Next.{walking}
use Rattle.fault.proofs.item.Onward.{items}
use Rattle.fault.proofs.item.walk_amount.Goals as goal

pub slice_bounds-check_amount-end : goal.slice_bounds-check_amount-end
slice_bounds-check_amount-end c = search (field_in, rules)

pub walk_variable-requires-clause-at_in_bounds : goal.walk_variable-requires-clause-at_in_bounds
walk_variable-requires-clause-at_in_bounds c = search (walking, c.in_ok-next.was)

pub returns-in_err-next : goal.returns-in_err-next
unfolding rules_of field_number
returns-in_err-next c =
    let p = err_from_is_err_and c.from_residual.result c.from_residual.ensures.1 in
    rw (p.1, p.2) (search (items, walking, c.in_err-next.was))

pub returns : goal.returns
unfolding rules_of field_number
returns c = search (items, walking, c.in_ok-next.was)
