-- `put_if` puts a text, or nothing.
use Rattle.sentences.proofs.Parts.{by_answer}
use Rattle.sentences.proofs.spelled.put_if.Goals as goal

pub returns-then-yes : goal.returns-then-yes
returns-then-yes c = search by_answer

pub returns : goal.returns
returns c = search by_answer
