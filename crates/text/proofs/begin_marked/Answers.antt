-- `text::begin_marked` meets its contract. Assumes nothing.
use Rattle.text.proofs.Exits.{beginnings}
use Rattle.text.proofs.begin_marked.Goals as goal

pub returns-then-only_name : goal.returns-then-only_name
returns-then-only_name c = search beginnings

pub returns-then-starts_at : goal.returns-then-starts_at
returns-then-starts_at c = search beginnings

pub returns-then-may : goal.returns-then-may
returns-then-may c = search beginnings

pub returns : goal.returns
returns c = search beginnings
