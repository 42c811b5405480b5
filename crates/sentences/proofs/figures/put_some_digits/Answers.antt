-- `put_some_digits` puts how many digits.
use Rattle.sentences.specs.Allowed.{some_digits}
use Rattle.sentences.proofs.Parts.{in_three}
use Rattle.sentences.proofs.figures.put_some_digits.Goals as goal

pub returns : goal.returns
unfolding some_digits
returns c = search in_three
