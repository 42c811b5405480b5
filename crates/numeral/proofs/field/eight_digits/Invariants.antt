-- `eight_digits` meets its contract: while the answer is true, every byte passed is a digit. Assumes nothing.
use Rattle.std.proofs.Common.{◌≡◌, take, drop}
use Rattle.base.specs.Seek.{all}
use Rattle.paper.specs.Bytes.{is_digit}
use Rattle.numeral.proofs.field.eight_digits.Given as goal

abbrev pub invariant-loop-j : goal.invariant-loop-j
invariant-loop-j l = l.digits ≡ all is_digit (take l.j (drop l.at l.s))
