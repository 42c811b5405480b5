-- `spelling::itemlen::text_of` meets its contract. Assumes nothing.
use Rattle.spelling.proofs.itemlen.Tails.{cuts}
use Rattle.spelling.proofs.itemlen.text_of.Goals as goal

pub returns : goal.returns
returns c = search cuts
