-- `put_at_most` puts how many at most.
use Rattle.sentences.specs.Allowed.{at_most}
use Rattle.sentences.proofs.Parts.{in_two}
use Rattle.sentences.proofs.figures.put_at_most.Goals as goal

pub returns : goal.returns
unfolding at_most
returns c = search in_two
