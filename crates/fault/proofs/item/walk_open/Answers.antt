-- `walk_open`: the tail on K, C, E and P. Assumes nothing.
use Rattle.fault.proofs.item.Onward.{tails}
use Rattle.fault.proofs.item.walk_open.Goals as goal

pub returns-then-no_symbol : goal.returns-then-no_symbol
returns-then-no_symbol c = search tails

pub returns-then-at-s : goal.returns-then-at-s
returns-then-at-s c = search tails

pub returns : goal.returns
returns c = search tails
