-- `next`: what each kind of record leads to, where a statement is open and where none is. Assumes nothing.
use borrow.Author.Rules.{rules}
use Rattle.std.proofs.lemmas.Result.{err_from_is_err_and}
use Rattle.statement.proofs.run.Leading.{stages, leading}
use Rattle.statement.proofs.run.next.Goals as goal

pub returns-in_default : goal.returns-in_default
returns-in_default c = search leading

pub moved-requires : goal.moved-requires
moved-requires c = search (stages, rules)

pub returns-in-Ok : goal.returns-in-Ok
returns-in-Ok c = search leading

pub returns-in-Err : goal.returns-in-Err
returns-in-Err c = search leading

pub returns-in_err-over-in-Head : goal.returns-in_err-over-in-Head
returns-in_err-over-in-Head c =
    let p = err_from_is_err_and c.from_residual.result c.from_residual.ensures.1 in
    rw (p.1, p.2) (search (leading, c.in_err-over-in-Head.was))

pub returns-in-Ok-read : goal.returns-in-Ok-read
returns-in-Ok-read c = search (leading, c.in_ok-over-in-Head.was)

pub returns-in-Err-read : goal.returns-in-Err-read
returns-in-Err-read c = search (leading, c.in_ok-over-in-Head.was)

pub returns-in-Nothing : goal.returns-in-Nothing
returns-in-Nothing c = search leading
