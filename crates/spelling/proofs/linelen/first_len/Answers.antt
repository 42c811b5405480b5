-- `spelling::linelen::first_len` meets its contract. Assumes nothing.
use borrow.Author.Rules.{rules}
use Rattle.spelling.proofs.linelen.Lengths.{first-full, first_plain}
use Rattle.spelling.proofs.linelen.first_len.Goals as goal

pub returns-then-sh : goal.returns-then-sh
returns-then-sh c = search (first-full, first_plain, rules)

pub returns : goal.returns
returns c = search (first-full, first_plain, rules)
