-- `text::joins::put_parts` meets its contract. Assumes nothing.
use borrow.Author.Rules.{rules}
use Rattle.text.proofs.joins.Writes.{trims}
use Rattle.text.proofs.joins.put_parts.Goals as goal

pub put_bytes-requires : goal.put_bytes-requires
put_bytes-requires c = search (trims, rules)

pub returns-then-b-eq0 : goal.returns-then-b-eq0
returns-then-b-eq0 c = search (trims)

pub put_two-requires : goal.put_two-requires
put_two-requires c = search (trims, rules)

pub returns-then-c-eq0 : goal.returns-then-c-eq0
returns-then-c-eq0 c = search (trims)

pub put_three-requires : goal.put_three-requires
put_three-requires c = search (trims, rules)

pub returns-then-d-eq0 : goal.returns-then-d-eq0
returns-then-d-eq0 c = search (trims)

pub put_four-requires : goal.put_four-requires
put_four-requires c = search (trims, rules)

pub returns : goal.returns
returns c = search (trims)
