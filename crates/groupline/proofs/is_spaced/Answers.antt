-- `is_spaced` meets its contract: the two places of spaces. Assumes nothing.
use Rattle.base.proofs.Cases.{picks}
use Rattle.groupline.specs.Spaced.{spaced}
use Rattle.groupline.proofs.is_spaced.Goals as goal

pub returns-then-n-lt9 : goal.returns-then-n-lt9
unfolding spaced
returns-then-n-lt9 c = search picks

pub returns-then-s-ne32 : goal.returns-then-s-ne32
unfolding spaced
returns-then-s-ne32 c = search picks

pub returns : goal.returns
unfolding spaced
returns c = search picks
