-- `write_back` answers with the bytes that were written.
use Rattle.rewriting.proofs.Front.{draft-wrote}
use Rattle.rewriting.proofs.write_back.Goals as goal

pub returns : goal.returns
returns c = search draft-wrote
