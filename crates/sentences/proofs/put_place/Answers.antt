-- `put_place` puts the line, the byte and the field.
use Rattle.sentences.specs.Sentences.{place_words}
use Rattle.sentences.proofs.Parts.{in_three}
use Rattle.sentences.proofs.put_place.Goals as goal

pub returns : goal.returns
unfolding place_words
returns c = search in_three
