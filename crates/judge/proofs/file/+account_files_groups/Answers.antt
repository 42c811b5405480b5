-- `account_files` and `groups`, which call each other, meet their contracts: by the budget, and by each step. Assumes nothing.
use Rattle.std.proofs.Common.{rules}
use Rattle.std.proofs.lemmas.Result.{err_from_is_err_and}
use Rattle.judge.proofs.file.Goes.{alongs, readers}
use Rattle.judge.proofs.file.+account_files_groups.Goals as goal

pub account_files-returns-in_err-left : goal.account_files-returns-in_err-left
account_files-returns-in_err-left t c =
    let p = err_from_is_err_and c.from_residual.result c.from_residual.ensures.1 in
    rw (p.1, p.2) (search (readers, c.in_err-left.was))

pub account_files-returns-in-Group : goal.account_files-returns-in-Group
account_files-returns-in-Group t c = search (readers, c.in_ok-left.was)

pub account_files-returns-in_default : goal.account_files-returns-in_default
account_files-returns-in_default t c = search (readers, c.in_ok-left.was)

pub groups-returns-in_err-next : goal.groups-returns-in_err-next
groups-returns-in_err-next t c =
    let p = err_from_is_err_and c.from_residual.result c.from_residual.ensures.1 in
    rw (p.1, p.2) (search (alongs, rules, c.in_err-next.was))

pub groups-returns-in-File : goal.groups-returns-in-File
groups-returns-in-File t c = search (alongs, rules, c.in_ok-next.was)

pub groups-returns-in_default : goal.groups-returns-in_default
groups-returns-in_default t c = search (alongs, rules, c.in_ok-next.was)
