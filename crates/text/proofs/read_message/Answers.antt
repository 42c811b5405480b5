-- `text::read_message` meets its contract. Assumes nothing.
use borrow.Author.Rules.{rules}
use Rattle.text.proofs.Exits.{messages}
use Rattle.text.proofs.read_message.Goals as goal

pub name_at-name-requires : goal.name_at-name-requires
name_at-name-requires c = search (messages, rules)

pub returns : goal.returns
returns c = search messages

pub slice_bounds-finish_at-end : goal.slice_bounds-finish_at-end
slice_bounds-finish_at-end c = search (messages, rules)
