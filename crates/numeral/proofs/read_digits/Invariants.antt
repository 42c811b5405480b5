-- `numeral::read_digits` meets its contract. The loop's invariant: the number read so far has at most i digits, and what is left of the
-- field, read on from it, says what the whole field says. Assumes nothing.
use Rattle.std.proofs.Common.{◌≡◌, ◌^◌, ◌<◌, drop}
use Rattle.paper.specs.Numerals.{digits_on, digits}
use Rattle.numeral.proofs.read_digits.Given as goal

abbrev pub invariant-loop-b : goal.invariant-loop-b
invariant-loop-b l = (l.v < 10 ^ l.b-index) × (digits l.least l.most l.f ≡ digits_on l.v (drop l.b-index l.f))
