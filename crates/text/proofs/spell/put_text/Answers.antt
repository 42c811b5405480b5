-- `text::spell::put_text` meets its contract: mark, parts and name. Assumes nothing.
use borrow.Author.Rules.{rules}
use Rattle.text.proofs.spell.Writes.{wholes}
use Rattle.text.proofs.spell.put_text.Goals as goal

pub put_mark-e-requires : goal.put_mark-e-requires
put_mark-e-requires c = search (wholes, rules)

pub put_parts-f-requires : goal.put_parts-f-requires
put_parts-f-requires c = search (wholes, rules)

pub put_end-requires : goal.put_end-requires
put_end-requires c = search (wholes, rules)

pub returns : goal.returns
returns c = search wholes
