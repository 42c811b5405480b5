-- `all_plain` meets its contract. Assumes nothing.
use Rattle.text.proofs.division.Turns.{plains}
use Rattle.text.proofs.division.all_plain.Goals as goal

pub returns-then-all_other : goal.returns-then-all_other
returns-then-all_other c = search plains

pub returns : goal.returns
returns c = search plains
