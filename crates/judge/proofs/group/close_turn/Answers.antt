-- `close_turn`: a closing line ends a group that has an item. Assumes nothing.
use borrow.Author.Rules.{rules}
use Rattle.std.proofs.lemmas.Result.{err_from_is_err_and}
use Rattle.judge.proofs.group.Turns.{places, turns}
use Rattle.judge.proofs.group.close_turn.Goals as goal

pub returns-then-count-eq0 : goal.returns-then-count-eq0
returns-then-count-eq0 c = search turns

pub lined-requires : goal.lined-requires
lined-requires c = search (places, rules)

pub returns-in_err-lined : goal.returns-in_err-lined
returns-in_err-lined c =
    let p = err_from_is_err_and c.from_residual.result c.from_residual.ensures.1 in
    rw (p.1, p.2) (search (turns, c.in_err-lined.was))

pub returns : goal.returns
returns c = search (turns, c.in_ok-lined.was)
