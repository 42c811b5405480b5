-- `whole` meets its contract. Assumes nothing.
use mathlib.Core.Path.{refl}
use Rattle.itemline.specs.take.Made.{with_texts}
use Rattle.itemline.proofs.take.whole.Goals as goal

pub returns : goal.returns
unfolding with_texts
returns c = refl
