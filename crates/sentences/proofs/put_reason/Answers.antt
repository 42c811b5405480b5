-- `put_reason` puts what was found and what was allowed.
use Rattle.sentences.proofs.Parts.{in_two}
use Rattle.sentences.proofs.put_reason.Goals as goal

pub returns : goal.returns
returns c = search in_two
