-- `Seen::none` meets its contract: no bit of sixteen zeros is set. Assumes nothing.
use Rattle.fileline.proofs.seen.Laws.{holds-none}
use Rattle.fileline.proofs.seen.Seen.none.Goals as goal

pub returns : goal.returns
returns c = search holds-none
