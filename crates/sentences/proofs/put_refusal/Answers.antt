-- `put_refusal` puts a refusal, part by part.
use Rattle.sentences.specs.Sentences.{refusal_words}
use Rattle.sentences.proofs.Parts.{in_three}
use Rattle.sentences.proofs.put_refusal.Goals as goal

pub returns : goal.returns
unfolding refusal_words
returns c = search in_three
