-- `skip_high` meets its contract: blocks are passed, and then bytes. Assumes nothing.
use Rattle.scan.proofs.block.Turns.{skip-near}
use Rattle.scan.proofs.block.skip_high.Goals as goal

pub returns : goal.returns
returns c = search skip-near
