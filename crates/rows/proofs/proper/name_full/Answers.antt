-- `name_full` meets its contract: the length, then the bytes. Assumes nothing.
use Rattle.base.proofs.Cases.{picks}
use Rattle.rows.proofs.proper.name_full.Goals as goal

pub returns-then-name-eq20 : goal.returns-then-name-eq20
returns-then-name-eq20 c = search picks

pub returns : goal.returns
returns c = search picks
