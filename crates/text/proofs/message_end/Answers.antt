-- `text::message_end` meets its contract. Assumes nothing.
use Rattle.text.proofs.Turns.{ends}
use Rattle.text.proofs.message_end.Goals as goal

pub returns-then-names : goal.returns-then-names
returns-then-names c = search ends

pub returns : goal.returns
returns c = search ends
