-- `still_short`: whether all was short so far, and n bytes are too. Assumes nothing.
use Rattle.base.proofs.Cases.{picks}
use Rattle.fault.proofs.texts.still_short.Goals as goal

pub returns-then-n-gt35 : goal.returns-then-n-gt35
returns-then-n-gt35 c = search picks

pub returns : goal.returns
returns c = search picks
