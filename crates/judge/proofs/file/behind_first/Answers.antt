-- The loop of `behind_first`: the answer from where reading stands is the answer of the file, and there is less to go. Assumes nothing.
use borrow.Author.Rules.{rules}
use Rattle.std.proofs.lemmas.Result.{err_from_is_err_and}
use Rattle.judge.proofs.file.Goes.{stands}
use Rattle.judge.proofs.file.behind_first.Goals as goal

pub loop-left-init : goal.loop-left-init
loop-left-init c = search (stands, rules)

pub returns-in_err-left-in-File-clause-by_index : goal.returns-in_err-left-in-File-clause-by_index
returns-in_err-left-in-File-clause-by_index c =
    let p = err_from_is_err_and c.from_residual.result c.from_residual.ensures.1 in
    rw (p.1, p.2) (search (stands, rules, c.in_err-left-in-File.was))

pub loop-left-preserved-in-File : goal.loop-left-preserved-in-File
loop-left-preserved-in-File c = search (stands, rules, c.in_ok-left-in-File.was)

pub returns-in_err-left-in-Group-clause-by_index : goal.returns-in_err-left-in-Group-clause-by_index
returns-in_err-left-in-Group-clause-by_index c =
    let p = err_from_is_err_and c.from_residual-in_err-left-in-Group.result c.from_residual-in_err-left-in-Group.ensures.1 in
    rw (p.1, p.2) (search (stands, rules, c.in_err-left-in-Group.was))

pub loop-left-preserved : goal.loop-left-preserved
loop-left-preserved c = search (stands, rules, c.in_ok-left-in-Group.was)

pub returns-in-Accepted-clause-by_index : goal.returns-in-Accepted-clause-by_index
returns-in-Accepted-clause-by_index c = search (stands, rules)
