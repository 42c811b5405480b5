-- `put_part` puts a part of the file, as far as the file has it.
use Rattle.sentences.proofs.found.Clipped.{part-counted}
use Rattle.sentences.proofs.found.put_part.Goals as goal

pub returns : goal.returns
returns c = search part-counted
