-- `text::joins::put_four` meets its contract. Assumes nothing.
use borrow.Author.Rules.{rules}
use Rattle.text.proofs.joins.Writes.{joins}
use Rattle.text.proofs.joins.put_four.Goals as goal

pub put_bytes-e-requires : goal.put_bytes-e-requires
put_bytes-e-requires c = search (joins, rules)

pub put_byte-f-requires : goal.put_byte-f-requires
put_byte-f-requires c = search (joins, rules)

pub put_three-requires : goal.put_three-requires
put_three-requires c = search (joins, rules)

pub returns : goal.returns
returns c = search (joins)
