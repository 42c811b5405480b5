-- `group_opening` meets its contract: the line refused, or a group with what the line says. Assumes nothing.
use borrow.Author.Rules.{rules}
use Rattle.std.proofs.lemmas.Result.{err_from_is_err_and}
use Rattle.judge.proofs.accountfile.Groups.{group-places, openings}
use Rattle.judge.proofs.accountfile.group_opening.Goals as goal

pub group_line-requires-clause-in_bounds : goal.group_line-requires-clause-in_bounds
group_line-requires-clause-in_bounds c = search (group-places, rules)

pub lined-requires : goal.lined-requires
lined-requires c = search (group-places, rules)

pub returns-in_err-group : goal.returns-in_err-group
returns-in_err-group c =
    let p = err_from_is_err_and c.from_residual.result c.from_residual.ensures.1 in
    rw (p.1, p.2) (search (openings, c.in_err-group.was))

pub byte_in-byte-requires : goal.byte_in-byte-requires
byte_in-byte-requires c = search (group-places, rules, c.in_ok-group.was)

pub group_held-requires : goal.group_held-requires
group_held-requires c = search (group-places, rules, c.in_ok-group.was)

pub returns : goal.returns
returns c = search (openings, c.in_ok-group.was)
