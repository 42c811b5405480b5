-- `with_tail`: the tail, with the warnings of its texts. Assumes nothing.
use Rattle.std.proofs.lemmas.Result.{err_from_is_err_and}
use borrow.Author.Rules.{rules}
use Rattle.itemline.specs.judge.Brief.{kept_texts}
use Rattle.itemline.proofs.judge.Steps.{items, bounds}
use Rattle.itemline.proofs.judge.with_tail.Goals as goal

pub returns-in_err-tail : goal.returns-in_err-tail
returns-in_err-tail c =
    let p = err_from_is_err_and c.from_residual.result c.from_residual.ensures.1 in
    rw (p.1, p.2) (search (items, c.in_err-tail.was) depth 12)

pub returns-in_err-texts-in-Some : goal.returns-in_err-texts-in-Some
returns-in_err-texts-in-Some c =
    let p = err_from_is_err_and c.from_residual-in_err-texts-in-Some.result c.from_residual-in_err-texts-in-Some.ensures.1 in
    rw (p.1, p.2) (search (items, c.in_ok-tail.was, c.in_err-texts-in-Some.was) depth 12)

pub with_texts-requires : goal.with_texts-requires
with_texts-requires c = search (bounds, c.in_ok-tail.was, c.in_ok-texts-in-Some.was, rules)

pub returns-in-None : goal.returns-in-None
unfolding kept_texts
returns-in-None c = search (items, c.in_ok-tail.was) depth 12

pub returns-in_ok-texts-in-Some : goal.returns-in_ok-texts-in-Some
returns-in_ok-texts-in-Some c = search (items, c.in_ok-tail.was, c.in_ok-texts-in-Some.was) depth 12
