-- `lies` meets its contract: the sum is compared without being made. Assumes nothing.
use Rattle.rows.proofs.read.Laws.{lies_out, lies-apart}
use Rattle.rows.proofs.read.lies.Goals as goal

pub returns-then-n-len : goal.returns-then-n-len
returns-then-n-len c = search lies_out

pub returns : goal.returns
returns c = search lies-apart
