-- `text::judge` meets its contract. Assumes nothing.
use Rattle.base.proofs.Cases.{picks}
use Rattle.text.specs.Finish.{judged}
use Rattle.text.proofs.judge.Goals as goal

pub returns-then-may : goal.returns-then-may
unfolding judged
returns-then-may c = search (picks)

pub returns-then-w-eq0 : goal.returns-then-w-eq0
unfolding judged
returns-then-w-eq0 c = search (picks)

pub returns : goal.returns
unfolding judged
returns c = search (picks)
