-- `text::fits::no_mark` meets its contract. Assumes nothing.
use Rattle.text.proofs.fits.Absent.{absent}
use Rattle.text.proofs.fits.no_mark.Goals as goal

pub returns-then-find_byte-p : goal.returns-then-find_byte-p
returns-then-find_byte-p c = search absent
