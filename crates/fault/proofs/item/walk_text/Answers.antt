-- `walk_text`: a text to the line's end. Assumes nothing.
use Rattle.why.specs.Names.{field_number}
use Rattle.why.specs.Fields.{rules_of}
use Rattle.fault.proofs.line.Steps.{steps}
use Rattle.fault.proofs.item.walk_text.Goals as goal

pub returns : goal.returns
unfolding rules_of field_number
returns c = search steps
