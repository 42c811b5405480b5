-- `start_of` meets its contract: what is not looked at was judged. Assumes nothing.
use borrow.Author.Rules.{rules}
use Rattle.itemline.proofs.take.Named.{starts-text}
use Rattle.itemline.proofs.take.start_of.Goals as goal

pub message_start-requires : goal.message_start-requires
message_start-requires c = search (starts-text, rules)

pub returns : goal.returns
returns c = search starts-text
