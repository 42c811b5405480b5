-- `put_rest` puts how the rest of a first line is spelled.
use borrow.Author.Rules.{rules}
use Rattle.sentences.specs.Allowed.{spelled_rest}
use Rattle.sentences.proofs.spelled.put_rest.Goals as goal

pub returns : goal.returns
unfolding spelled_rest
returns c = search rules
