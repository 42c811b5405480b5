-- `put_priority` writes nothing, or two bytes. Assumes nothing.
use borrow.Author.Rules.{rules}
use Rattle.bank.proofs.Spelled.{spelled}
use Rattle.bank.proofs.put_priority.Goals as goal

pub returns-then-p-eq5 : goal.returns-then-p-eq5
returns-then-p-eq5 c = search spelled

pub put_byte-e-requires : goal.put_byte-e-requires
put_byte-e-requires c = search (spelled, rules)

pub put_byte-requires : goal.put_byte-requires
put_byte-requires c = search (spelled, rules)

pub returns : goal.returns
returns c = search spelled
