-- `put_ranged` puts a number, or a range of them.
use Rattle.sentences.specs.Allowed.{ranged}
use Rattle.sentences.proofs.Parts.{in_two, counted-eq, counted-ne}
use Rattle.sentences.proofs.figures.put_ranged.Goals as goal

pub returns-then-a-b : goal.returns-then-a-b
unfolding ranged
returns-then-a-b c = search counted-eq

pub returns : goal.returns
unfolding ranged
returns c = search (counted-ne, in_two)
