-- `spaces` meets its contract: the spaces counted and those from the index on are all. Assumes nothing.
use native.Mathlib.Omega.{arith}
use Rattle.scan.proofs.line.Fields.{counts, count-space, count-other}
use Rattle.scan.proofs.line.spaces.Goals as goal
use Rattle.scan.proofs.line.spaces.Goals.{then-b-eq32, else-b-eq32}

pub loop-b-preserved : goal.loop-b-preserved
loop-b-preserved c = let inv = c.loop-b.invariant in
    let within = c.loop-b-test.true in
    elim c.if-b-eq32.branch [
      | then-b-eq32 w ↦ (omega arith, rw w.n-is (count-space _ _ _ inv.1 within w.if-b-eq32.true))
      | else-b-eq32 w ↦ (omega arith, rw w.n-is (count-other _ _ _ inv.1 within w.if-b-eq32.false))
    ]

pub returns : goal.returns
returns c = search counts
