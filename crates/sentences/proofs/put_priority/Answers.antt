-- `put_priority` puts a priority and the one that it is read as.
use Rattle.sentences.proofs.Parts.{in_two}
use Rattle.sentences.proofs.put_priority.Goals as goal

pub returns : goal.returns
returns c = search in_two
