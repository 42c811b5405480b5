-- `internal`: each element is the one that the table names. Assumes nothing.
use mathlib.Core.Path.{refl}
use Rattle.gpc.specs.Internal.{taken, internal}
use Rattle.internal.proofs.internal.Goals as goal

pub returns : goal.returns
unfolding taken internal
returns c = refl
