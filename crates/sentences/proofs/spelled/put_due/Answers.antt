-- `put_due` puts how a due date is spelled.
use borrow.Author.Rules.{rules}
use Rattle.sentences.specs.Allowed.{spelled_due}
use Rattle.sentences.proofs.spelled.put_due.Goals as goal

pub returns : goal.returns
unfolding spelled_due
returns c = search rules
