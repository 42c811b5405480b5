-- `open_file` meets its contract: too many, the line refused, or its number put to those seen; offsets stay in the file. Assumes nothing.
use borrow.Author.Rules.{rules}
use Rattle.std.proofs.lemmas.Result.{err_from_is_err_and}
use Rattle.judge.proofs.accountfile.Files.{file-places, file-lines}
use Rattle.judge.proofs.accountfile.open_file.Goals as goal

pub returns-then-files-ge1000 : goal.returns-then-files-ge1000
returns-then-files-ge1000 c = search file-lines

pub file_line-read-requires : goal.file_line-read-requires
file_line-read-requires c = search (file-places, rules)

pub lined-requires : goal.lined-requires
lined-requires c = search (file-places, rules)

pub returns-in_err-opened : goal.returns-in_err-opened
returns-in_err-opened c =
    let p = err_from_is_err_and c.from_residual.result c.from_residual.ensures.1 in
    rw (p.1, p.2) (search (file-lines, c.in_err-opened.was))

pub mark-requires-clause-n_bound : goal.mark-requires-clause-n_bound
mark-requires-clause-n_bound c = search (file-places, rules, c.in_ok-opened.was)

pub returns : goal.returns
returns c = search (file-lines, c.in_ok-opened.was)
