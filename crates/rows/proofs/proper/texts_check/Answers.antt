-- `texts_check` meets its contract: the fields in their order. Assumes nothing.
use Rattle.rows.proofs.read.Fields.{fields}
use Rattle.rows.specs.proper.Stages.{texts_proper}
use Rattle.rows.proofs.proper.texts_check.Goals as goal

pub returns-then-not-part_fine : goal.returns-then-not-part_fine
unfolding texts_proper
returns-then-not-part_fine c k rest = search fields depth 14

pub returns-then-not-part_fine-2 : goal.returns-then-not-part_fine-2
unfolding texts_proper
returns-then-not-part_fine-2 c k rest = search fields depth 14

pub returns-then-not-part_fine-3 : goal.returns-then-not-part_fine-3
unfolding texts_proper
returns-then-not-part_fine-3 c k rest = search fields depth 14

pub returns-then-not-part_fine-4 : goal.returns-then-not-part_fine-4
unfolding texts_proper
returns-then-not-part_fine-4 c k rest = search fields depth 14

pub returns-then-not-name_fine : goal.returns-then-not-name_fine
unfolding texts_proper
returns-then-not-name_fine c k rest = search fields depth 14

pub returns : goal.returns
unfolding texts_proper
returns c k rest = search fields depth 14
