-- `text::joins::put_two` meets its contract. Assumes nothing.
use borrow.Author.Rules.{rules}
use Rattle.text.proofs.joins.Writes.{joins}
use Rattle.text.proofs.joins.put_two.Goals as goal

pub put_bytes-e-requires : goal.put_bytes-e-requires
put_bytes-e-requires c = search (joins, rules)

pub put_byte-f-requires : goal.put_byte-f-requires
put_byte-f-requires c = search (joins, rules)

pub put_bytes-requires : goal.put_bytes-requires
put_bytes-requires c = search (joins, rules)

pub returns : goal.returns
returns c = search (joins)
