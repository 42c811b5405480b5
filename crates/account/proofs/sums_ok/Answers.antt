-- `sums_ok`: an answer for each sum that does not divide by 11, and the last for both that do. Assumes nothing.
use Rattle.base.proofs.Cases.{picks}
use Rattle.account.specs.Doubled.{sums_ok}
use Rattle.account.proofs.sums_ok.Goals as goal

pub returns-then-p-ne0 : goal.returns-then-p-ne0
unfolding sums_ok
returns-then-p-ne0 c = search picks

pub returns-then-b-ne0 : goal.returns-then-b-ne0
unfolding sums_ok
returns-then-b-ne0 c = search picks

pub returns : goal.returns
unfolding sums_ok
returns c = search picks
