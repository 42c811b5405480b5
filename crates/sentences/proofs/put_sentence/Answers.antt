-- `put_sentence` puts the place of a finding, and what it is.
use Rattle.sentences.specs.Sentences.{sentence}
use Rattle.sentences.proofs.Parts.{in_two}
use Rattle.sentences.proofs.put_sentence.Goals as goal

pub returns : goal.returns
unfolding sentence
returns c = search in_two
