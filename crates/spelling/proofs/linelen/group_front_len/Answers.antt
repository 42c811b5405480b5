-- `spelling::linelen::group_front_len` meets its contract. Assumes nothing.
use borrow.Author.Rules.{rules}
use Rattle.spelling.proofs.linelen.Lengths.{group-front}
use Rattle.spelling.proofs.linelen.group_front_len.Goals as goal

pub returns : goal.returns
returns c = search (group-front, rules)
