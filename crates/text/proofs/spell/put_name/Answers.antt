-- `text::spell::put_name` meets its contract. Assumes nothing.
use borrow.Author.Rules.{rules}
use Rattle.text.proofs.spell.Writes.{names}
use Rattle.text.proofs.spell.put_name.Goals as goal

pub returns-then-n-eq0 : goal.returns-then-n-eq0
returns-then-n-eq0 c = search (names)

pub put_bytes-e-requires : goal.put_bytes-e-requires
put_bytes-e-requires c = search (names, rules)

pub put_bytes-requires : goal.put_bytes-requires
put_bytes-requires c = search (names, rules)

pub returns : goal.returns
returns c = search (names)
