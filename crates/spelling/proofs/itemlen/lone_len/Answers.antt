-- `spelling::itemlen::lone_len` meets its contract. Assumes nothing.
use borrow.Author.Rules.{rules}
use Rattle.spelling.proofs.itemlen.Lengths.{symbols}
use Rattle.spelling.proofs.itemlen.lone_len.Goals as goal

pub returns-then-n-eq0 : goal.returns-then-n-eq0
returns-then-n-eq0 c = search (symbols, rules)

pub returns : goal.returns
returns c = search (symbols, rules)
