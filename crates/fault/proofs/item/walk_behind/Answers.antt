-- `walk_behind`: behind a symbol: nothing, or a space and a text. Assumes nothing.
use Rattle.fault.proofs.item.Onward.{tails}
use Rattle.fault.proofs.item.walk_behind.Goals as goal

pub returns-then-at-s : goal.returns-then-at-s
returns-then-at-s c = search tails

pub returns : goal.returns
returns c = search tails
