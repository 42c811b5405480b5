-- `spelling::putlines::put_first` meets its contract. Assumes nothing.
use borrow.Author.Rules.{rules}
use Rattle.spelling.proofs.putlines.First.{firsts}
use Rattle.spelling.proofs.putlines.put_first.Goals as goal

pub first_front-e-requires : goal.first_front-e-requires
first_front-e-requires c = search (firsts, rules)

pub first_back-requires : goal.first_back-requires
first_back-requires c = search (firsts, rules)

pub returns-then-sh : goal.returns-then-sh
returns-then-sh c = search firsts

pub put_bytes-requires : goal.put_bytes-requires
put_bytes-requires c = search (firsts, rules)

pub returns : goal.returns
returns c = search firsts
