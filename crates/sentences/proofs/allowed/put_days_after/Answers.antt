-- `put_days_after` puts how many days after today.
use Rattle.sentences.specs.Allowed.{at_most}
use Rattle.sentences.proofs.Parts.{in_two}
use Rattle.sentences.proofs.allowed.put_days_after.Goals as goal

pub returns : goal.returns
unfolding at_most
returns c = search in_two
