-- `put_first_digits` puts the interval of first digits.
use Rattle.sentences.proofs.Parts.{in_two}
use Rattle.sentences.proofs.allowed.put_first_digits.Goals as goal

pub returns : goal.returns
returns c = search in_two
