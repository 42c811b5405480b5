-- `has_prefix` meets its contract: the tests of a prefix. Assumes nothing.
use Rattle.base.proofs.Cases.{picks}
use Rattle.account.specs.at.Parts.{dashed}
use Rattle.account.proofs.at.has_prefix.Goals as goal

pub returns-then-n-lt1 : goal.returns-then-n-lt1
unfolding dashed
returns-then-n-lt1 c = search picks

pub returns-then-n-gt6 : goal.returns-then-n-gt6
unfolding dashed
returns-then-n-gt6 c = search picks

pub returns : goal.returns
unfolding dashed
returns c = search picks
