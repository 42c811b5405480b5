-- `from_first` meets its contract: the first line refused, or the answer from behind it, with or without a header. Assumes nothing.
use borrow.Author.Rules.{rules}
use Rattle.std.proofs.lemmas.Result.{err_from_is_err_and}
use Rattle.judge.proofs.file.Heads.{heads}
use Rattle.judge.proofs.file.from_first.Goals as goal

pub lined-requires : goal.lined-requires
lined-requires c = search (heads, rules)

pub returns-in_err-head-clause-by_index : goal.returns-in_err-head-clause-by_index
returns-in_err-head-clause-by_index c =
    let p = err_from_is_err_and c.from_residual.result c.from_residual.ensures.1 in
    rw (p.1, p.2) (search (heads, rules, c.in_err-head.was))

pub behind_first-requires-clause-le_at : goal.behind_first-requires-clause-le_at
behind_first-requires-clause-le_at c = search (heads, rules)

pub behind_first-requires-clause-in_bounds : goal.behind_first-requires-clause-in_bounds
behind_first-requires-clause-in_bounds c = search (heads, rules, c.in_ok-head.was)

pub returns-clause-by_index : goal.returns-clause-by_index
returns-clause-by_index c = search (heads, rules, c.in_ok-head.was)
