-- `digit` meets its contract. Assumes nothing.
use Rattle.std.proofs.Common.{rules}
use Rattle.numeral.proofs.placed.Placed.{ones}
use Rattle.numeral.proofs.placed.digit.Goals as goal

pub bounds-s-at : goal.bounds-s-at
bounds-s-at c = search (ones, rules)

pub overflow_cast-result : goal.overflow_cast-result
overflow_cast-result c = search ones

pub overflow_sub-result : goal.overflow_sub-result
overflow_sub-result c = search ones

pub returns : goal.returns
returns c = search ones
