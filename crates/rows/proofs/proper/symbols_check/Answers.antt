-- `symbols_check` meets its contract: the fields in their order. Assumes nothing.
use Rattle.rows.proofs.read.Fields.{fields}
use Rattle.rows.specs.proper.Stages.{symbols_proper}
use Rattle.rows.proofs.proper.symbols_check.Goals as goal

pub returns-then-x-ge10000000000 : goal.returns-then-x-ge10000000000
unfolding symbols_proper
returns-then-x-ge10000000000 c k rest = search fields depth 14

pub returns-then-x-ge10000000000-2 : goal.returns-then-x-ge10000000000-2
unfolding symbols_proper
returns-then-x-ge10000000000-2 c k rest = search fields depth 14

pub returns-then-x-ge10000 : goal.returns-then-x-ge10000
unfolding symbols_proper
returns-then-x-ge10000 c k rest = search fields depth 14

pub returns-then-not-priority_proper : goal.returns-then-not-priority_proper
unfolding symbols_proper
returns-then-not-priority_proper c k rest = search fields depth 14

pub returns : goal.returns
unfolding symbols_proper
returns c k rest = search fields depth 14
