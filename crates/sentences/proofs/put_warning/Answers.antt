-- `put_warning` puts a warning, part by part.
use Rattle.sentences.specs.Sentences.{warning_words}
use Rattle.sentences.proofs.Parts.{in_three}
use Rattle.sentences.proofs.put_warning.Goals as goal

pub returns : goal.returns
unfolding warning_words
returns c = search in_three
