-- `total_found`: by the test of the sum. Assumes nothing.
use Rattle.found.proofs.Exits.{totals}
use Rattle.found.proofs.total_found.Goals as goal

pub returns-then-sum-gt99999999999999 : goal.returns-then-sum-gt99999999999999
returns-then-sum-gt99999999999999 c = search totals

pub returns : goal.returns
returns c = search totals
