-- `two` meets its contract. Assumes nothing.
use Rattle.std.proofs.Common.{arith}
use Rattle.numeral.proofs.Sound.{digits-sound}
use Rattle.numeral.proofs.placed.Placed.{halves}
use Rattle.numeral.proofs.placed.two.Goals as goal

pub digit-requires : goal.digit-requires
digit-requires c = search halves

pub overflow_mul-result : goal.overflow_mul-result
overflow_mul-result c = omega (arith, digits-sound 1 1 _ _ c.digit.ensures)

pub digit-requires-2 : goal.digit-requires-2
digit-requires-2 c = search halves

pub overflow_add-result : goal.overflow_add-result
overflow_add-result c = omega (arith, digits-sound 1 1 _ _ c.digit.ensures, digits-sound 1 1 _ _ c.digit-2.ensures)

pub returns : goal.returns
returns c = search halves
