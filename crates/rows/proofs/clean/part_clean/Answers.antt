-- `clean::part_clean` meets its contract. Assumes nothing.
use Rattle.rows.proofs.clean.Laws.{clean-here}
use Rattle.rows.proofs.clean.part_clean.Goals as goal

pub returns : goal.returns
returns c = search clean-here
