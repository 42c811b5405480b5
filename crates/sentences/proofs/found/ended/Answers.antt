-- `ended` tests whether the file ended where a line was due.
use Rattle.base.proofs.Cases.{picks}
use Rattle.sentences.proofs.found.ended.Goals as goal

pub returns-then-number-eq3 : goal.returns-then-number-eq3
returns-then-number-eq3 c = search picks

pub returns : goal.returns
returns c = search picks
