-- `ended` meets its contract: a group's end leads behind the line that closes it, or judging halts there. Assumes nothing.
use borrow.Author.Rules.{rules}
use Rattle.tracing.proofs.group.Going.{group-ends}
use Rattle.tracing.proofs.group.ended.Goals as goal

pub returns-in-Ok : goal.returns-in-Ok
returns-in-Ok c = search (group-ends, rules)

pub returns-in-Err : goal.returns-in-Err
returns-in-Err c = search (group-ends, rules)
