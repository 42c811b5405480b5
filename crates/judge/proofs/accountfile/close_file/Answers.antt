-- `close_file` meets its contract: no group yet, the line refused, or the account file is closed. Assumes nothing.
use borrow.Author.Rules.{rules}
use Rattle.std.proofs.lemmas.Result.{err_from_is_err_and}
use Rattle.judge.proofs.accountfile.Groups.{closing-places, file-closings}
use Rattle.judge.proofs.accountfile.close_file.Goals as goal

pub returns-then-groups-eq0 : goal.returns-then-groups-eq0
returns-then-groups-eq0 c = search file-closings

pub lined-requires : goal.lined-requires
lined-requires c = search (closing-places, rules)

pub returns-in_err-lined : goal.returns-in_err-lined
returns-in_err-lined c =
    let p = err_from_is_err_and c.from_residual.result c.from_residual.ensures.1 in
    rw (p.1, p.2) (search (file-closings, c.in_err-lined.was))

pub returns : goal.returns
returns c = search (file-closings, c.in_ok-lined.was)
