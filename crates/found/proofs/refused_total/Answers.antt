-- `refused_total`: the finding of these numbers. Assumes nothing.
use Rattle.std.proofs.Common.{rules}
use Rattle.why.specs.Names.{field_number}
use Rattle.found.proofs.refused_total.Goals as goal

pub returns : goal.returns
unfolding field_number
returns c = search rules
