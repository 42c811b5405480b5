-- `numbers_in` meets its contract. The loop's invariant: the first i words are those of the lent bytes behind the date, the others as at first. Assumes nothing.
use mathlib.Core.Path.{◌≡◌}
use mathlib.Core.List.{◌++◌}
use lib.ListN.{take, drop}
use Rattle.paper.specs.Words.{words}
use Rattle.register.proofs.numbers_in.Given as goal

abbrev pub invariant-loop-i : goal.invariant-loop-i
invariant-loop-i l = l.set ≡ take l.i (words 16 (drop 8 l.lent)) ++ drop l.i l.initial.set
