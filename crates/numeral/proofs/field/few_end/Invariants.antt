-- `few_end` meets its contract. The loop's invariant: the first j bytes are digits of the run, and the rest of it is ahead. Assumes nothing.
use Rattle.std.proofs.Common.{◌≡◌, ◌+◌, ◌-◌, length, take, drop}
use Rattle.numeral.specs.field.Digits.{front, run}
use Rattle.numeral.proofs.field.few_end.Given as goal

abbrev pub invariant-loop-j : goal.invariant-loop-j
invariant-loop-j l = length (run l.most (drop l.at l.s)) ≡ l.j + length (front (take (l.most - l.j) (drop (l.at + l.j) l.s)))
