-- `file_check` meets its contract: the fields in their order. Assumes nothing.
use Rattle.rows.proofs.read.Fields.{fields}
use Rattle.rows.proofs.proper.file_check.Goals as goal

pub returns-then-not-kind_proper : goal.returns-then-not-kind_proper
returns-then-not-kind_proper c k rest = search fields depth 14

pub returns-then-number-ge1000000 : goal.returns-then-number-ge1000000
returns-then-number-ge1000000 c k rest = search fields depth 14

pub returns : goal.returns
returns c k rest = search fields depth 14
