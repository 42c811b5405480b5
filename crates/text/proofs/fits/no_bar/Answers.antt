-- `text::fits::no_bar` meets its contract. Assumes nothing.
use borrow.Author.Rules.{rules}
use Rattle.text.proofs.fits.Absent.{absent}
use Rattle.text.proofs.fits.no_bar.Goals as goal

pub returns : goal.returns
returns c = search (absent, rules)
