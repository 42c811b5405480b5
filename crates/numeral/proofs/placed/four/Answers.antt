-- `four` meets its contract. Assumes nothing.
use Rattle.std.proofs.Common.{arith}
use Rattle.numeral.proofs.Sound.{digits-sound}
use Rattle.numeral.proofs.placed.Placed.{halves}
use Rattle.numeral.proofs.placed.four.Goals as goal

pub two-requires : goal.two-requires
two-requires c = search halves

pub overflow_mul-result : goal.overflow_mul-result
overflow_mul-result c = omega (arith, digits-sound 2 2 _ _ c.two.ensures)

pub two-requires-2 : goal.two-requires-2
two-requires-2 c = search halves

pub overflow_add-result : goal.overflow_add-result
overflow_add-result c = omega (arith, digits-sound 2 2 _ _ c.two.ensures, digits-sound 2 2 _ _ c.two-2.ensures)

pub returns : goal.returns
returns c = search halves
