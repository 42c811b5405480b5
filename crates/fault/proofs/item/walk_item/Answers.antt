-- `walk_item`: an item: the payer's account comes first where the group is single. Assumes nothing.
use Rattle.fault.proofs.item.Onward.{turns}
use Rattle.fault.proofs.item.walk_item.Goals as goal

pub returns-then-single : goal.returns-then-single
returns-then-single c = search turns

pub returns : goal.returns
returns c = search turns
