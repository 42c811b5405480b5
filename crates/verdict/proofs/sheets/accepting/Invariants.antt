-- `accepting` sets bit after bit: those of the sheets done are set. Assumes nothing.
use Prim.Native.Nat.{◌-◌}
use Rattle.verdict.proofs.sheets.Following.{many}
use Rattle.verdict.proofs.sheets.Turns.{Marks}
use Rattle.verdict.proofs.sheets.accepting.Given as goal

abbrev pub invariant-loop-judged : goal.invariant-loop-judged
invariant-loop-judged l = Marks l.today l.file l.set l.bit l.place

abbrev pub decreases-loop-judged : goal.decreases-loop-judged
decreases-loop-judged l = many - l.place
