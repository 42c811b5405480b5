-- `text::fits::has_place` meets its contract. Assumes nothing.
use Rattle.base.proofs.Cases.{picks}
use Rattle.paper.proofs.Lists.{empty-null}
use Rattle.text.proofs.fits.has_place.Goals as goal

pub returns-then-i-most : goal.returns-then-i-most
returns-then-i-most c = search (picks, empty-null)

pub returns : goal.returns
returns c = search (picks, empty-null)
