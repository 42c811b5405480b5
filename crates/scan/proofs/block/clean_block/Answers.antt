-- `clean_block` meets its contract: what is neither byte is clean. Assumes nothing.
use Rattle.scan.proofs.block.Turns.{cleans}
use Rattle.scan.proofs.block.clean_block.Goals as goal

pub returns-then-all_other : goal.returns-then-all_other
returns-then-all_other c = search cleans

pub returns : goal.returns
returns c = search cleans
