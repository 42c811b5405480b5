-- `take_row` meets its contract: each way out is one kind of row, the last one what is left. Assumes nothing.
use Rattle.rows.proofs.read.Exits.{takes}
use Rattle.rows.proofs.read.take_row.Goals as goal

pub returns-then-kind-eq3 : goal.returns-then-kind-eq3
returns-then-kind-eq3 c t known = search takes

pub returns-then-kind-eq2 : goal.returns-then-kind-eq2
returns-then-kind-eq2 c t known = search takes

pub returns : goal.returns
returns c t known = search takes
