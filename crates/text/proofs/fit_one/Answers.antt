-- `text::fit_one` meets its contract. Assumes nothing.
use Rattle.text.proofs.Turns.{ones}
use Rattle.text.proofs.fit_one.Goals as goal

pub returns-then-most-eq0 : goal.returns-then-most-eq0
returns-then-most-eq0 c = search ones

pub returns : goal.returns
returns c = search ones
