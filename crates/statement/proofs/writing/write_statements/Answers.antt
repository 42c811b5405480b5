-- `write_statements`: the answer is what the rows were judged to be. Assumes nothing.
use borrow.Author.Rules.{rules}
use Rattle.statement.proofs.writing.Answering.{answering}
use Rattle.statement.proofs.writing.write_statements.Goals as goal

pub overflow_add-fault : goal.overflow_add-fault
overflow_add-fault c = search (answering, rules)

pub accept-requires : goal.accept-requires
accept-requires c = search (answering, rules)

pub returns-in-Err : goal.returns-in-Err
returns-in-Err c = search (answering, rules)
