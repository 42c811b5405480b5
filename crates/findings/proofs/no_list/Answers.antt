-- `no_list` names its number, and nothing else.
use mathlib.Core.Path.{refl}
use Rattle.findings.specs.Lists.{no_list}
use Rattle.findings.proofs.no_list.Goals as goal

pub returns : goal.returns
unfolding no_list
returns c = refl
