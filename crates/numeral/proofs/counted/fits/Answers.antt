-- `fits` tests what is left of the output.
use Rattle.std.proofs.Common.{rules}
use Rattle.numeral.proofs.counted.Exits.{tests}
use Rattle.numeral.proofs.counted.fits.Goals as goal

pub returns-then-at-len : goal.returns-then-at-len
returns-then-at-len c = search (tests, rules)

pub returns : goal.returns
returns c = search (tests, rules)
