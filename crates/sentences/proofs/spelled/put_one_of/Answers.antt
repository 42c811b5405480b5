-- `put_one_of` puts one of two texts.
use Rattle.sentences.proofs.Parts.{by_answer}
use Rattle.sentences.proofs.spelled.put_one_of.Goals as goal

pub returns-then-yes : goal.returns-then-yes
returns-then-yes c = search by_answer

pub returns : goal.returns
returns c = search by_answer
