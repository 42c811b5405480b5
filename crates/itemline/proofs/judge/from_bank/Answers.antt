-- `from_bank`: the bank field, and the tail behind it. Assumes nothing.
use Rattle.std.proofs.lemmas.Result.{err_from_is_err_and}
use borrow.Author.Rules.{rules}
use Rattle.itemline.proofs.judge.Steps.{items, bounds}
use Rattle.itemline.proofs.judge.from_bank.Goals as goal

pub returns-in_err-bank : goal.returns-in_err-bank
returns-in_err-bank c =
    let p = err_from_is_err_and c.from_residual.result c.from_residual.ensures.1 in
    rw (p.1, p.2) (search (items, c.in_err-bank.was) depth 12)

pub with_tail-requires-clause-at_in_bounds : goal.with_tail-requires-clause-at_in_bounds
with_tail-requires-clause-at_in_bounds c = search (bounds, c.in_ok-bank.was, rules)

pub with_tail-requires-clause-warnings_bound : goal.with_tail-requires-clause-warnings_bound
with_tail-requires-clause-warnings_bound c = search (bounds, c.in_ok-bank.was, rules)

pub returns : goal.returns
returns c = search (items, c.in_ok-bank.was) depth 12
