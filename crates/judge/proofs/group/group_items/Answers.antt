-- `group_items`: line after line the file's answer stays and the place moves on. Assumes nothing.
use borrow.Author.Rules.{rules}
use Rattle.std.proofs.lemmas.Result.{err_from_is_err_and}
use Rattle.judge.proofs.group.Going.{going-item, goings}
use Rattle.judge.proofs.group.group_items.Goals as goal

pub returns-in_err-item : goal.returns-in_err-item
returns-in_err-item c =
    let p = err_from_is_err_and c.from_residual.result c.from_residual.ensures.1 in
    rw (p.1, p.2) (search (goings, rules, c.in_err-item.was))

pub held_more-held-requires : goal.held_more-held-requires
held_more-held-requires c = search (goings, rules, c.in_ok-item.was)

pub loop-at-preserved : goal.loop-at-preserved
loop-at-preserved c =
    search (going-item, c.loop-at.invariant, c.next_line-cut.ensures, c.item_step.ensures, c.in_ok-item.was, c.in-Item.is, c.held_more-held.ensures, c.requires.sane)

pub returns-in-Close : goal.returns-in-Close
returns-in-Close c = search (goings, rules, c.in_ok-item.was)

pub returns : goal.returns
returns c = search (goings, rules)
