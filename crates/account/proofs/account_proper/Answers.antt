-- `account_proper` goes by the tests of its definition.
use Rattle.base.proofs.Cases.{picks}
use Rattle.paper.specs.Accounts.{account_proper}
use Rattle.account.proofs.account_proper.Goals as goal

pub returns-then-prefix-ge1000000 : goal.returns-then-prefix-ge1000000
unfolding account_proper
returns-then-prefix-ge1000000 c = search picks

pub returns-then-base-ge10000000000 : goal.returns-then-base-ge10000000000
unfolding account_proper
returns-then-base-ge10000000000 c = search picks

pub returns : goal.returns
unfolding account_proper
returns c = search picks
