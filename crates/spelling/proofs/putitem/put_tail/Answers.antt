-- `spelling::putitem::put_tail` meets its contract. Assumes nothing.
use borrow.Author.Rules.{rules}
use Rattle.spelling.proofs.putitem.Tail.{tails}
use Rattle.spelling.proofs.putitem.put_tail.Goals as goal

pub put_lone-requires : goal.put_lone-requires
put_lone-requires c = search (tails, rules)

pub returns-then-textless : goal.returns-then-textless
returns-then-textless c = search tails

pub put_symbol-e-requires : goal.put_symbol-e-requires
put_symbol-e-requires c = search (tails, rules)

pub put_text-requires : goal.put_text-requires
put_text-requires c = search (tails, rules)

pub returns : goal.returns
returns c = search tails
