-- `row_proper` meets its contract: a row of no known kind is none of a batch. Assumes nothing.
use Rattle.rows.proofs.walk.Steps.{row-strange}
use Rattle.rows.proofs.walk.row_proper.Goals as goal

pub returns-in_default : goal.returns-in_default
returns-in_default c = search row-strange
