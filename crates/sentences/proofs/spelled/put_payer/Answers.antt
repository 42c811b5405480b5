-- `put_payer` puts how a payer is spelled.
use Rattle.sentences.specs.Allowed.{spelled_payer}
use Rattle.sentences.proofs.Parts.{in_two}
use Rattle.sentences.proofs.spelled.put_payer.Goals as goal

pub returns : goal.returns
unfolding spelled_payer
returns c = search in_two
