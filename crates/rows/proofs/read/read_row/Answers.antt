-- `read_row` meets its contract: each way out is one kind of row. Assumes nothing.
use Rattle.rows.proofs.read.Exits.{exits}
use Rattle.rows.proofs.read.read_row.Goals as goal

pub returns-then-kind-eq3 : goal.returns-then-kind-eq3
returns-then-kind-eq3 c = search exits

pub returns-then-kind-eq2 : goal.returns-then-kind-eq2
returns-then-kind-eq2 c = search exits

pub returns-then-kind-eq1 : goal.returns-then-kind-eq1
returns-then-kind-eq1 c = search exits

pub returns : goal.returns
returns c = search exits
