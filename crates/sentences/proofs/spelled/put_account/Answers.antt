-- `put_account` puts how an account is spelled.
use Rattle.sentences.specs.Allowed.{spelled_account}
use Rattle.sentences.proofs.Parts.{in_three}
use Rattle.sentences.proofs.spelled.put_account.Goals as goal

pub returns : goal.returns
unfolding spelled_account
returns c = search in_three
