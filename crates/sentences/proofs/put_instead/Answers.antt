-- `put_instead` puts what was allowed.
use Rattle.sentences.specs.Sentences.{allowed_words}
use Rattle.sentences.proofs.Parts.{in_three}
use Rattle.sentences.proofs.put_instead.Goals as goal

pub returns : goal.returns
unfolding allowed_words
returns c = search in_three
