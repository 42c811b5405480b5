-- `put_dashed` puts a dash and two digits.
use Rattle.sentences.proofs.Parts.{in_two}
use Rattle.sentences.proofs.figures.put_dashed.Goals as goal

pub returns : goal.returns
returns c = search in_two
