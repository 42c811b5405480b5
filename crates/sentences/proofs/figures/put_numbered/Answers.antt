-- `put_numbered` puts the numbers of account files.
use Rattle.sentences.specs.Allowed.{numbered}
use Rattle.sentences.proofs.Parts.{in_three}
use Rattle.sentences.proofs.figures.put_numbered.Goals as goal

pub returns : goal.returns
unfolding numbered
returns c = search in_three
