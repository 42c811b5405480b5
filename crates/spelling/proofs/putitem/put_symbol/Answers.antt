-- `spelling::putitem::put_symbol` meets its contract. Assumes nothing.
use borrow.Author.Rules.{rules}
use Rattle.spelling.proofs.putitem.Tail.{symbols}
use Rattle.spelling.proofs.putitem.put_symbol.Goals as goal

pub put_bytes-requires : goal.put_bytes-requires
put_bytes-requires c = search (symbols, rules)

pub returns-then-hidden : goal.returns-then-hidden
returns-then-hidden c = search (symbols)

pub number_space-requires : goal.number_space-requires
number_space-requires c = search (symbols, rules)

pub returns : goal.returns
returns c = search (symbols)
