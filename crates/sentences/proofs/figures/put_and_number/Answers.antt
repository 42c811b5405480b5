-- `put_and_number` puts a text and a number behind it.
use Rattle.sentences.proofs.Parts.{in_two}
use Rattle.sentences.proofs.figures.put_and_number.Goals as goal

pub returns : goal.returns
returns c = search in_two
