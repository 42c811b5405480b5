-- `put_found` puts what was found.
use Rattle.sentences.specs.Sentences.{found_words}
use Rattle.sentences.proofs.Parts.{by-callee}
use Rattle.sentences.proofs.found.put_found.Goals as goal

pub returns-then-ended : goal.returns-then-ended
unfolding found_words
returns-then-ended c = search by-callee

pub returns : goal.returns
unfolding found_words
returns c = search by-callee
