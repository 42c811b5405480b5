-- `walk_group`: `2 TOTAL DATE`, or with the payer's account before TOTAL, of a line that begins so. Assumes nothing.
use Rattle.fault.proofs.line.Onward.{turns}
use Rattle.fault.proofs.line.walk_group.Goals as goal

pub returns-then-has_payer : goal.returns-then-has_payer
returns-then-has_payer c = search turns

pub returns : goal.returns
returns c = search turns
