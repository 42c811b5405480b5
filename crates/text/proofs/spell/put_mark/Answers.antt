-- `text::spell::put_mark` meets its contract: one of two marks, or none. Assumes nothing.
use borrow.Author.Rules.{rules}
use Rattle.text.proofs.spell.Writes.{choices}
use Rattle.text.proofs.spell.put_mark.Goals as goal

pub put_bytes-requires : goal.put_bytes-requires
put_bytes-requires c = search (choices, rules)

pub returns-then-alone : goal.returns-then-alone
returns-then-alone c = search choices

pub put_bytes-requires-then-marked : goal.put_bytes-requires-then-marked
put_bytes-requires-then-marked c = search (choices, rules)

pub returns-then-marked : goal.returns-then-marked
returns-then-marked c = search choices

pub returns : goal.returns
returns c = search choices
