-- `spelling::putlines::first_front` meets its contract. Assumes nothing.
use borrow.Author.Rules.{rules}
use Rattle.spelling.proofs.putlines.First.{firsts}
use Rattle.spelling.proofs.putlines.first_front.Goals as goal

pub put_day-f-requires : goal.put_day-f-requires
put_day-f-requires c = search (firsts, rules)

pub put_bytes-requires : goal.put_bytes-requires
put_bytes-requires c = search (firsts, rules)

pub returns : goal.returns
returns c = search firsts
