-- `put_behind` puts a field behind a space.
use Rattle.sentences.proofs.Parts.{in_three}
use Rattle.sentences.proofs.allowed.put_behind.Goals as goal

pub returns : goal.returns
returns c = search in_three
