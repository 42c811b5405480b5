-- `skip_other` meets its contract: blocks are passed, and then bytes. Assumes nothing.
use Rattle.scan.proofs.block.Turns.{skip-near}
use Rattle.scan.proofs.block.skip_other.Goals as goal

pub returns : goal.returns
returns c = search skip-near
