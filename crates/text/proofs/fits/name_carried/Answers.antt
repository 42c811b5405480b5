-- `text::fits::name_carried` meets its contract. Assumes nothing.
use Rattle.base.proofs.Cases.{picks}
use Rattle.paper.specs.Texts.{name_carried}
use Rattle.paper.proofs.Lists.{empty-null}
use Rattle.text.proofs.fits.name_carried.Goals as goal

pub returns-then-named : goal.returns-then-named
unfolding name_carried
returns-then-named c = search (picks, empty-null)

pub returns : goal.returns
unfolding name_carried
returns c = search (picks, empty-null)
