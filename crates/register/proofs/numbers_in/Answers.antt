-- `numbers_in` meets its contract. The loop's invariant: the first i words are those of the lent bytes behind the date, the others as at first. Assumes nothing.
use Prim.Native.Nat.{◌<◌}
use native.Mathlib.Omega.{arith}
use borrow.Author.Rules.{rules}
use Rattle.paper.specs.Words.{words}
use Rattle.register.proofs.Filled.{fills}
use Rattle.register.proofs.numbers_in.Goals as goal

pub loop-i-init : goal.loop-i-init
unfolding words
loop-i-init c = search rules

pub loop-i-preserved : goal.loop-i-preserved
loop-i-preserved c = let inside : c.loop-i.i < 16 = omega arith in search (fills, rules)

pub returns : goal.returns
returns c = search (fills, rules)
