-- `edited`: each element is the one that the inverse's table names. Assumes nothing.
use mathlib.Core.Path.{refl}
use Rattle.gpc.specs.Internal.{taken, edited}
use Rattle.internal.proofs.edited.Goals as goal

pub returns : goal.returns
unfolding taken edited
returns c = refl
