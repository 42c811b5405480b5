-- `out::put::put_bytes` meets its contract: the output so far is the lent one with the first i bytes put. Assumes nothing.
use Rattle.out.proofs.put.Copy.{copy-first, copy-next}
use Rattle.out.proofs.put.put_bytes.Goals as goal

pub loop-i-init : goal.loop-i-init
loop-i-init c = search copy-first

pub loop-i-preserved : goal.loop-i-preserved
loop-i-preserved c = copy-next _ _ _ _ _ c.requires c.loop-i.invariant c.loop-i-test.true
