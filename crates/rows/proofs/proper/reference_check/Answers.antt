-- `reference_check` meets its contract: it is below 2^32, or not. Assumes nothing.
use Rattle.paper.specs.Rows.{reference_proper}
use Rattle.rows.proofs.read.Fields.{fields}
use Rattle.rows.proofs.proper.reference_check.Goals as goal

pub returns-then-x-ge4294967296 : goal.returns-then-x-ge4294967296
unfolding reference_proper
returns-then-x-ge4294967296 c k rest = search fields

pub returns : goal.returns
unfolding reference_proper
returns c k rest = search fields
