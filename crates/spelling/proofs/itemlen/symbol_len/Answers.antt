-- `spelling::itemlen::symbol_len` meets its contract. Assumes nothing.
use borrow.Author.Rules.{rules}
use Rattle.spelling.proofs.itemlen.Lengths.{symbols}
use Rattle.spelling.proofs.itemlen.symbol_len.Goals as goal

pub returns-then-hidden : goal.returns-then-hidden
returns-then-hidden c = search (symbols, rules)

pub returns : goal.returns
returns c = search (symbols, rules)
