-- `header_proper` tests the header where the sheet has one.
use Rattle.base.proofs.Cases.{picks}
use Rattle.write.proofs.header_proper.Goals as goal

pub returns-then-sh : goal.returns-then-sh
returns-then-sh c = search picks

pub returns : goal.returns
returns c = search picks
