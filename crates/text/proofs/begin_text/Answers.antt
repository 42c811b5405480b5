-- `text::begin_text` meets its contract. Assumes nothing.
use Rattle.text.proofs.Exits.{beginnings}
use Rattle.text.proofs.begin_text.Goals as goal

pub returns-then-opens_at : goal.returns-then-opens_at
returns-then-opens_at c = search beginnings

pub returns-then-av : goal.returns-then-av
returns-then-av c = search beginnings

pub returns : goal.returns
returns c = search beginnings
