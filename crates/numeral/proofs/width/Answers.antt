-- `numeral::width` meets its contract. Assumes nothing.
use Rattle.std.proofs.Common.{rules}
use Rattle.numeral.proofs.Wide.{widths}
use Rattle.numeral.proofs.width.Goals as goal

pub returns-then-n-lt10000000000 : goal.returns-then-n-lt10000000000
returns-then-n-lt10000000000 c = search (widths, rules)

pub returns : goal.returns
returns c = search (widths, rules)
