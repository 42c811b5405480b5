-- `spelling::putlines::put_group_line` meets its contract. Assumes nothing.
use borrow.Author.Rules.{rules}
use Rattle.spelling.proofs.putlines.Group.{groups}
use Rattle.spelling.proofs.putlines.put_group_line.Goals as goal

pub put_bytes-e-requires : goal.put_bytes-e-requires
put_bytes-e-requires c = search (groups, rules)

pub put_payer-f-requires : goal.put_payer-f-requires
put_payer-f-requires c = search (groups, rules)

pub number_space-g-requires : goal.number_space-g-requires
number_space-g-requires c = search (groups, rules)

pub day_end-requires : goal.day_end-requires
day_end-requires c = search (groups, rules)

pub returns : goal.returns
returns c = search groups
