-- `take_message` meets its contract. Assumes nothing.
use borrow.Author.Rules.{rules}
use Rattle.itemline.proofs.take.Named.{messages}
use Rattle.itemline.proofs.take.take_message.Goals as goal

pub take_named-requires : goal.take_named-requires
take_named-requires c = search (messages, rules)

pub returns-then-names : goal.returns-then-names
returns-then-names c = record { result_value = search messages; held = search messages }

pub returns : goal.returns
returns c = record { result_value = search messages; held = search messages }
