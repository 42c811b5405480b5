-- `text::fits::part_carried` meets its contract. Assumes nothing.
use Rattle.text.proofs.fits.Carried.{places}
use Rattle.text.proofs.fits.part_carried.Goals as goal

pub returns-then-has_place : goal.returns-then-has_place
returns-then-has_place c = search (places)

pub returns : goal.returns
returns c = search (places)
