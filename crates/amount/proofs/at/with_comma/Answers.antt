-- `with_comma` answers as its definition does.
use borrow.Author.Rules.{rules}
use Rattle.std.proofs.lemmas.Result.{err_from_is_err_and}
use Rattle.amount.proofs.at.Commas.{exits}
use Rattle.amount.proofs.at.with_comma.Goals as goal

pub overflow_mul-result : goal.overflow_mul-result
overflow_mul-result c = search (exits, rules, c.in_ok-crowns.was, c.in_ok-rest.was)

pub overflow_add-result : goal.overflow_add-result
overflow_add-result c = search (exits, rules, c.in_ok-crowns.was, c.in_ok-rest.was)

pub returns-in_err-crowns : goal.returns-in_err-crowns
returns-in_err-crowns c =
    let p = err_from_is_err_and c.from_residual.result c.from_residual.ensures.1 in
    rw (p.1, p.2) (search (exits, c.in_err-crowns.was))

pub returns-in_err-rest : goal.returns-in_err-rest
returns-in_err-rest c =
    let p = err_from_is_err_and c.from_residual-in_err-rest.result c.from_residual-in_err-rest.ensures.1 in
    rw (p.1, p.2) (search (exits, c.in_ok-crowns.was, c.in_err-rest.was))

pub returns : goal.returns
returns c = search (exits, c.in_ok-crowns.was, c.in_ok-rest.was)
