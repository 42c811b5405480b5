-- `text::fits::name_proper` meets its contract. Assumes nothing.
use Rattle.text.proofs.fits.Absent.{lengths}
use Rattle.text.proofs.fits.name_proper.Goals as goal

pub returns-then-s-from-gt35 : goal.returns-then-s-from-gt35
returns-then-s-from-gt35 c = search lengths

pub returns : goal.returns
returns c = search lengths
