-- `put_account`: with and without a prefix; room for each part, and the parts written one behind the other.
use borrow.Author.Rules.{rules}
use Rattle.account.proofs.Spelled.{spelled}
use Rattle.account.proofs.put_account.Goals as goal

pub put_number-requires : goal.put_number-requires
put_number-requires c = search (spelled, rules)

pub returns-then-prefix-eq0 : goal.returns-then-prefix-eq0
returns-then-prefix-eq0 c = search spelled

pub put_number-p-requires : goal.put_number-p-requires
put_number-p-requires c = search (spelled, rules)

pub put_byte-q-requires : goal.put_byte-q-requires
put_byte-q-requires c = search (spelled, rules)

pub put_number-requires-2 : goal.put_number-requires-2
put_number-requires-2 c = search (spelled, rules)

pub returns : goal.returns
returns c = search spelled
