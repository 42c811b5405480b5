-- `put_cut` puts how long a text is cut.
use Rattle.sentences.proofs.Parts.{in_two}
use Rattle.sentences.proofs.put_cut.Goals as goal

pub returns : goal.returns
returns c = search in_two
