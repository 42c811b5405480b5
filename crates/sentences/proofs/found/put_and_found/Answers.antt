-- `put_and_found` puts a text and what was found behind it.
use Rattle.sentences.proofs.Parts.{in_two}
use Rattle.sentences.proofs.found.put_and_found.Goals as goal

pub returns : goal.returns
returns c = search in_two
