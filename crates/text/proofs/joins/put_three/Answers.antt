-- `text::joins::put_three` meets its contract. Assumes nothing.
use borrow.Author.Rules.{rules}
use Rattle.text.proofs.joins.Writes.{joins}
use Rattle.text.proofs.joins.put_three.Goals as goal

pub put_bytes-e-requires : goal.put_bytes-e-requires
put_bytes-e-requires c = search (joins, rules)

pub put_byte-f-requires : goal.put_byte-f-requires
put_byte-f-requires c = search (joins, rules)

pub put_two-requires : goal.put_two-requires
put_two-requires c = search (joins, rules)

pub returns : goal.returns
returns c = search (joins)
