-- `text::spell::put_end` meets its contract: the name, with a mark before it or not, or nothing. Assumes nothing.
use borrow.Author.Rules.{rules}
use Rattle.text.proofs.spell.Writes.{choices}
use Rattle.text.proofs.spell.put_end.Goals as goal

pub put_bytes-requires : goal.put_bytes-requires
put_bytes-requires c = search (choices, rules)

pub returns-then-alone : goal.returns-then-alone
returns-then-alone c = search choices

pub put_name-requires : goal.put_name-requires
put_name-requires c = search (choices, rules)

pub returns-then-marked : goal.returns-then-marked
returns-then-marked c = search choices

pub returns : goal.returns
returns c = search choices
