-- `is_nobody` goes by its definition.
use Rattle.base.proofs.Cases.{picks}
use Rattle.paper.specs.Accounts.{is_nobody}
use Rattle.account.proofs.is_nobody.Goals as goal

pub returns-then-prefix-ne0 : goal.returns-then-prefix-ne0
unfolding is_nobody
returns-then-prefix-ne0 c = search picks

pub returns : goal.returns
unfolding is_nobody
returns c = search picks
