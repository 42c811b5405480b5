-- `lowest_free` meets its contract. The loop's invariant: all numbers of the words passed are marked. Assumes nothing.
use Prim.Native.Nat.{◌*◌}
use Rattle.fileline.specs.seen.Bits.{bit}
use Rattle.register.proofs.questions.Lowest.{Full}
use Rattle.register.proofs.questions.lowest_free.Given as goal

abbrev pub invariant-loop-i : goal.invariant-loop-i
invariant-loop-i l = Full (bit l.set.words) (64 * l.i)
