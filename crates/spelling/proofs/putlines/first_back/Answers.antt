-- `spelling::putlines::first_back` meets its contract. Assumes nothing.
use borrow.Author.Rules.{rules}
use Rattle.spelling.proofs.putlines.First.{firsts}
use Rattle.spelling.proofs.putlines.first_back.Goals as goal

pub put_fixed-e-requires : goal.put_fixed-e-requires
put_fixed-e-requires c = search (firsts, rules)

pub put_fixed-f-requires : goal.put_fixed-f-requires
put_fixed-f-requires c = search (firsts, rules)

pub put_fixed-g-requires : goal.put_fixed-g-requires
put_fixed-g-requires c = search (firsts, rules)

pub put_bytes-requires : goal.put_bytes-requires
put_bytes-requires c = search (firsts, rules)

pub returns : goal.returns
returns c = search firsts
