-- `walk_rest`: the rest of the line. Assumes nothing.
use Rattle.why.specs.Names.{field_number}
use Rattle.why.specs.Fields.{rules_of}
use Rattle.fault.proofs.line.Steps.{steps}
use Rattle.fault.proofs.first.walk_rest.Goals as goal

pub returns : goal.returns
unfolding rules_of field_number
returns c = search steps
