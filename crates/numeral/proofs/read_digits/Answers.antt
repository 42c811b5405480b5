-- `numeral::read_digits` meets its contract. The loop's invariant: the number read so far has at most i digits, and what is left of the
-- field, read on from it, says what the whole field says. Assumes nothing.
use Rattle.std.proofs.Common.{rules}
use Rattle.numeral.proofs.Digits.{reading}
use Rattle.numeral.proofs.read_digits.Goals as goal

pub returns-then-n-least : goal.returns-then-n-least
returns-then-n-least c = search reading

pub returns-then-most-n : goal.returns-then-most-n
returns-then-most-n c = search reading

pub loop-b-init : goal.loop-b-init
loop-b-init c = search (reading, rules)

pub returns-then-b-lt48 : goal.returns-then-b-lt48
returns-then-b-lt48 c = search reading

pub returns-then-b-gt57 : goal.returns-then-b-gt57
returns-then-b-gt57 c = search reading

pub overflow_mul-v : goal.overflow_mul-v
overflow_mul-v c = search (reading, rules)

pub overflow_add-v : goal.overflow_add-v
overflow_add-v c = search (reading, rules)

pub loop-b-preserved : goal.loop-b-preserved
loop-b-preserved c = search (reading, rules)

pub returns : goal.returns
returns c = search reading
