-- `count_free` meets its contract. The loop's invariant: so far the ones are the numbers marked below 64 for each word passed. Assumes nothing.
use mathlib.Core.Path.{◌≡◌}
use Prim.Native.Nat.{◌*◌}
use Rattle.fileline.specs.seen.Bits.{bit}
use Rattle.register.specs.Marks.{taken}
use Rattle.register.proofs.questions.count_free.Given as goal

abbrev pub invariant-loop-word : goal.invariant-loop-word
invariant-loop-word l = l.marked ≡ taken (bit l.fn.set.words) (64 * l.word-index)
