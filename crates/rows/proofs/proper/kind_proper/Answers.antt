-- `kind_proper` meets its contract: the kind lies in the range, or before or behind it. Assumes nothing.
use Rattle.std.proofs.Common.{arith}
use Rattle.std.proofs.lemmas.Grind.{common_steps}
use Rattle.std.proofs.lemmas.Bool.Decides.{nat_tests}
use Rattle.base.specs.Pick.{pick}
use Rattle.paper.specs.Proper.{kind_proper}
use Rattle.rows.proofs.proper.kind_proper.Goals as goal

pub returns-in-1501-to-1504 : goal.returns-in-1501-to-1504
unfolding kind_proper pick
returns-in-1501-to-1504 c = grind (arith, nat_tests, common_steps)

pub returns-in_default : goal.returns-in_default
unfolding kind_proper pick
returns-in_default c = grind (arith, nat_tests, common_steps)

pub returns-in_default-2 : goal.returns-in_default-2
unfolding kind_proper pick
returns-in_default-2 c = grind (arith, nat_tests, common_steps)
