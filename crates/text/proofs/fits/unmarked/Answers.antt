-- `text::fits::unmarked` meets its contract. Assumes nothing.
use Rattle.base.proofs.Cases.{picks}
use Rattle.text.proofs.fits.unmarked.Goals as goal

pub returns-then-names : goal.returns-then-names
returns-then-names c = search (picks)

pub returns : goal.returns
returns c = search (picks)
