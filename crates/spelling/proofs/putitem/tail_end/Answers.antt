-- `spelling::putitem::tail_end` meets its contract. Assumes nothing.
use borrow.Author.Rules.{rules}
use Rattle.spelling.proofs.putitem.Line.{ends}
use Rattle.spelling.proofs.putitem.tail_end.Goals as goal

pub put_tail-e-requires : goal.put_tail-e-requires
put_tail-e-requires c = search (ends, rules)

pub put_bytes-requires : goal.put_bytes-requires
put_bytes-requires c = search (ends, rules)

pub returns : goal.returns
returns c = search (ends)
