-- `item_turn`: too many before the fields, then the item as it is judged. Assumes nothing.
use borrow.Author.Rules.{rules}
use Rattle.std.proofs.lemmas.Result.{err_from_is_err_and}
use Rattle.judge.proofs.group.Turns.{places, turns}
use Rattle.judge.proofs.group.item_turn.Goals as goal

pub returns-then-inside-ge99999 : goal.returns-then-inside-ge99999
returns-then-inside-ge99999 c = search turns

pub returns-then-limits-items : goal.returns-then-limits-items
returns-then-limits-items c = search turns

pub lined-requires : goal.lined-requires
lined-requires c = search (places, rules)

pub returns-in_err-item : goal.returns-in_err-item
returns-in_err-item c =
    let p = err_from_is_err_and c.from_residual.result c.from_residual.ensures.1 in
    rw (p.1, p.2) (search (turns, c.in_err-item.was))

pub returns : goal.returns
returns c = search (turns, c.in_ok-item.was)
