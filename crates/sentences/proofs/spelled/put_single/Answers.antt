-- `put_single` puts what makes a group single.
use Rattle.sentences.specs.Allowed.{single_words}
use Rattle.sentences.proofs.Parts.{by_answer}
use Rattle.sentences.proofs.spelled.put_single.Goals as goal

pub returns-then-empty : goal.returns-then-empty
unfolding single_words
returns-then-empty c = search by_answer

pub returns : goal.returns
unfolding single_words
returns c = search by_answer
