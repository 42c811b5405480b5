-- `accept`: with no room nothing is put, else the whole file is. Assumes nothing.
use borrow.Author.Rules.{rules}
use Rattle.statement.proofs.writing.Answering.{accepting}
use Rattle.statement.proofs.writing.accept.Goals as goal

pub returns-then-out-bytes : goal.returns-then-out-bytes
returns-then-out-bytes c = search (accepting, rules)

pub fill_file-requires : goal.fill_file-requires
fill_file-requires c = search (accepting, rules)

pub returns : goal.returns
returns c = search (accepting, rules)
