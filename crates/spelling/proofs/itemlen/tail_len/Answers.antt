-- `spelling::itemlen::tail_len` meets its contract. Assumes nothing.
use borrow.Author.Rules.{rules}
use Rattle.spelling.proofs.itemlen.Lengths.{tails}
use Rattle.spelling.proofs.itemlen.tail_len.Goals as goal

pub returns-then-sh : goal.returns-then-sh
returns-then-sh c = search (tails, rules)

pub returns-then-no_text : goal.returns-then-no_text
returns-then-no_text c = search (tails, rules)

pub returns : goal.returns
returns c = search (tails, rules)
