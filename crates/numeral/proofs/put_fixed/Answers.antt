-- `numeral::put_fixed` meets its contract: with the digits that are left put in front, the output is what it is to be. Assumes nothing.
use Rattle.std.proofs.Common.{rules}
use Rattle.numeral.proofs.Fours.{fours}
use Rattle.numeral.proofs.put_fixed.Goals as goal

pub loop-j-init : goal.loop-j-init
loop-j-init c = search (fours, rules)

pub overflow_sub-j : goal.overflow_sub-j
overflow_sub-j c = search (fours, rules)

pub overflow_add-at : goal.overflow_add-at
overflow_add-at c = search (fours, rules)

pub put_four-requires : goal.put_four-requires
put_four-requires c = search (fours, rules)

pub loop-j-smaller : goal.loop-j-smaller
loop-j-smaller c = search (fours, rules)

pub loop-j-preserved : goal.loop-j-preserved
loop-j-preserved c = search (fours, rules)

pub put_few-requires : goal.put_few-requires
put_few-requires c = search (fours, rules)

pub overflow_add-result : goal.overflow_add-result
overflow_add-result c = search (fours, rules)

pub shape_of-out : goal.shape_of-out
shape_of-out c = search (fours, rules)

pub returns : goal.returns
returns c = search fours
