-- `text::bytes_taken` meets its contract. Assumes nothing.
use Rattle.base.proofs.Cases.{picks}
use Rattle.paper.specs.Texts.{taken}
use Rattle.text.proofs.bytes_taken.Goals as goal

pub returns-then-clean : goal.returns-then-clean
unfolding taken
returns-then-clean c = search (picks)

pub returns : goal.returns
unfolding taken
returns c = search (picks)
