-- `put_text` puts how a text is spelled.
use Rattle.sentences.specs.Allowed.{spelled_text}
use Rattle.sentences.proofs.Parts.{by_answer}
use Rattle.sentences.proofs.spelled.put_text.Goals as goal

pub returns-then-sh : goal.returns-then-sh
unfolding spelled_text
returns-then-sh c = search by_answer

pub returns-then-sh-2 : goal.returns-then-sh-2
unfolding spelled_text
returns-then-sh-2 c = search by_answer

pub returns : goal.returns
unfolding spelled_text
returns c = search by_answer
