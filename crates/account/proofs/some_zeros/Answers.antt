-- `some_zeros` goes by the tests of its definition.
use Rattle.base.proofs.Cases.{picks}
use Rattle.paper.specs.Accounts.{zeros}
use Rattle.account.proofs.some_zeros.Goals as goal

pub returns-then-f-lt1 : goal.returns-then-f-lt1
unfolding zeros
returns-then-f-lt1 c = search picks

pub returns-then-most-f : goal.returns-then-most-f
unfolding zeros
returns-then-most-f c = search picks

pub returns : goal.returns
unfolding zeros
returns c = search picks
