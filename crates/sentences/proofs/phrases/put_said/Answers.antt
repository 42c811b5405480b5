-- `put_said` looks for the number in row after row: what the whole table says is what those from the next one on say. Assumes nothing.
use Rattle.sentences.proofs.Saying.{saying, said-later}
use Rattle.sentences.proofs.phrases.put_said.Goals as goal

pub returns-then-number-n : goal.returns-then-number-n
returns-then-number-n c = search saying

pub loop-number-preserved : goal.loop-number-preserved
loop-number-preserved c = (c.loop-number.invariant.0, said-later _ _ _ c.loop-number.invariant.1 _ c.loop-number-test.true c.if-number-n.false)

pub returns : goal.returns
returns c = search saying
