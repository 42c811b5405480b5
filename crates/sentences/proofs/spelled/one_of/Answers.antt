-- `one_of` is one of two numbers.
use Rattle.base.proofs.Cases.{picks}
use Rattle.sentences.proofs.spelled.one_of.Goals as goal

pub returns-then-yes : goal.returns-then-yes
returns-then-yes c = search picks

pub returns : goal.returns
returns c = search picks
