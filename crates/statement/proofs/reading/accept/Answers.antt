-- `accept`: with no room nothing is put, else all rows are. Assumes nothing.
use borrow.Author.Rules.{rules}
use Rattle.statement.proofs.reading.Answering.{accepting}
use Rattle.statement.proofs.reading.accept.Goals as goal

pub returns-then-room-count : goal.returns-then-room-count
returns-then-room-count c = search (accepting, rules)

pub fill_rows-requires : goal.fill_rows-requires
fill_rows-requires c = search (accepting, rules)

pub returns : goal.returns
returns c = search (accepting, rules)
