-- `put_quoted` puts bytes in quotes, part by part.
use Rattle.sentences.specs.Quoted.{quoted}
use Rattle.sentences.proofs.Parts.{in_three}
use Rattle.sentences.proofs.quoted.put_quoted.Goals as goal

pub returns : goal.returns
unfolding quoted
returns c = search in_three
