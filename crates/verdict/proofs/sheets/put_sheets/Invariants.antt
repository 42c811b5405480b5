-- `put_sheets` puts line after line: k of them stand there. Assumes nothing.
use Prim.Native.Nat.{◌-◌}
use Rattle.verdict.proofs.sheets.Following.{many}
use Rattle.verdict.proofs.sheets.Turns.{Said}
use Rattle.verdict.proofs.sheets.put_sheets.Given as goal

abbrev pub invariant-loop-sh : goal.invariant-loop-sh
invariant-loop-sh l = Said l.today l.file l.initial.out l.at l.k l.out l.next

abbrev pub decreases-loop-sh : goal.decreases-loop-sh
decreases-loop-sh l = many - l.k
