-- `text::name_at` meets its contract. Assumes nothing.
use Rattle.text.proofs.Turns.{names}
use Rattle.text.proofs.name_at.Goals as goal

pub returns-then-rest-le4 : goal.returns-then-rest-le4
returns-then-rest-le4 c = search names

pub returns : goal.returns
returns c = search names
