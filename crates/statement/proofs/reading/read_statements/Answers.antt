-- `read_statements`: the answer is what the file was judged to be. Assumes nothing.
use borrow.Author.Rules.{rules}
use Rattle.statement.proofs.reading.Answering.{answering}
use Rattle.statement.proofs.reading.read_statements.Goals as goal

pub refusal-requires : goal.refusal-requires
refusal-requires c = search (answering, rules)

pub accept-requires : goal.accept-requires
accept-requires c = search (answering, rules)

pub returns-in-Err : goal.returns-in-Err
returns-in-Err c = search (answering, rules)
