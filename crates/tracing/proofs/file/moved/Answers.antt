-- `moved` meets its contract. Assumes nothing.
use borrow.Author.Rules.{rules}
use Rattle.tracing.proofs.file.Stepping.{mets, over}
use Rattle.tracing.proofs.file.moved.Goals as goal

pub overflow_add-result : goal.overflow_add-result
overflow_add-result c = search (mets, over, rules)

pub blamed-requires : goal.blamed-requires
blamed-requires c = search (mets, over, rules)

pub returns-in-Some : goal.returns-in-Some
returns-in-Some c = search (mets, over, rules)

pub returns-in-None : goal.returns-in-None
returns-in-None c = search (mets, over, rules)
