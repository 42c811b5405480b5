-- `by_limit`: by the test of the account file's items. Assumes nothing.
use Rattle.base.proofs.Cases.{picks}
use Rattle.found.proofs.by_limit.Goals as goal

pub returns-then-inside-ge99999 : goal.returns-then-inside-ge99999
returns-then-inside-ge99999 c = search picks

pub returns : goal.returns
returns c = search picks
