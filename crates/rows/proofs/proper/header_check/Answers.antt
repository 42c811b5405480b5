-- `header_check` meets its contract: the fields in their order. Assumes nothing.
use Rattle.rows.proofs.read.Fields.{fields}
use Rattle.paper.specs.Proper.{header_proper}
use Rattle.rows.proofs.proper.header_check.Goals as goal

pub returns-then-not-real_day : goal.returns-then-not-real_day
unfolding header_proper
returns-then-not-real_day c = search fields depth 14

pub returns-then-not-name_full : goal.returns-then-not-name_full
unfolding header_proper
returns-then-not-name_full c = search fields depth 14

pub returns-then-client-ge10000000000 : goal.returns-then-client-ge10000000000
unfolding header_proper
returns-then-client-ge10000000000 c = search fields depth 14

pub returns-then-from-ge1000 : goal.returns-then-from-ge1000
unfolding header_proper
returns-then-from-ge1000 c = search fields depth 14

pub returns-then-to-ge1000 : goal.returns-then-to-ge1000
unfolding header_proper
returns-then-to-ge1000 c = search fields depth 14

pub returns : goal.returns
unfolding header_proper
returns c = search fields depth 14
