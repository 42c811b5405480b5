-- Each way out is one case of the definition.
use Rattle.base.proofs.Cases.{picks}
use Rattle.fill.proofs.itemrow.place_word.Goals as goal

pub returns-then-p-eq0 : goal.returns-then-p-eq0
returns-then-p-eq0 c = search picks

pub returns : goal.returns
returns c = search picks
