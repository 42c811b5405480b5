-- `put_and_date` puts a text and a day behind it.
use Rattle.sentences.proofs.Parts.{in_two}
use Rattle.sentences.proofs.figures.put_and_date.Goals as goal

pub returns : goal.returns
returns c = search in_two
