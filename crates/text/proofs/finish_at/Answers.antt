-- `text::finish_at` meets its contract. Assumes nothing.
use Rattle.base.proofs.Cases.{picks}
use Rattle.text.specs.Finish.{finish_at}
use Rattle.text.proofs.finish_at.Goals as goal

pub returns-then-bytes_taken : goal.returns-then-bytes_taken
unfolding finish_at
returns-then-bytes_taken c = search (picks)

pub returns : goal.returns
unfolding finish_at
returns c = search (picks)
