-- `spelling::putitem::put_lone` meets its contract. Assumes nothing.
use borrow.Author.Rules.{rules}
use Rattle.spelling.proofs.putitem.Tail.{lones}
use Rattle.spelling.proofs.putitem.put_lone.Goals as goal

pub returns-then-n-eq0 : goal.returns-then-n-eq0
returns-then-n-eq0 c = search (lones)

pub put_byte-e-requires : goal.put_byte-e-requires
put_byte-e-requires c = search (lones, rules)

pub put_number-requires : goal.put_number-requires
put_number-requires c = search (lones, rules)

pub returns : goal.returns
returns c = search (lones)
