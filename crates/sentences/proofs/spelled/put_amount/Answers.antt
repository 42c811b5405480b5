-- `put_amount` puts how an amount is spelled.
use Rattle.sentences.specs.Allowed.{spelled_amount}
use Rattle.sentences.proofs.Parts.{by_answer}
use Rattle.sentences.proofs.spelled.put_amount.Goals as goal

pub returns-then-sh : goal.returns-then-sh
unfolding spelled_amount
returns-then-sh c = search by_answer

pub returns : goal.returns
unfolding spelled_amount
returns c = search by_answer
