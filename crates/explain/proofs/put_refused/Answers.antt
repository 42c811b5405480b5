-- `put_refused` meets its contract: its words and the letter, one behind the other.
use borrow.Author.Rules.{rules}
use Rattle.explain.proofs.Text.{then-refused}
use Rattle.explain.proofs.put_refused.Goals as goal

pub put_bytes-d-requires : goal.put_bytes-d-requires
put_bytes-d-requires c = search (then-refused, rules)

pub put_byte-e-requires : goal.put_byte-e-requires
put_byte-e-requires c = search (then-refused, rules)

pub put_bytes-requires : goal.put_bytes-requires
put_bytes-requires c = search (then-refused, rules)

pub returns : goal.returns
returns c = search (then-refused, rules)
