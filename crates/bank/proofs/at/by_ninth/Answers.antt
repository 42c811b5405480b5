-- `by_ninth` meets its contract: the cases of the ninth digit. Assumes nothing.
use Rattle.numeral.proofs.field.Onward.{onwards}
use Rattle.bank.specs.at.Warned.{warned_by}
use Rattle.bank.proofs.at.by_ninth.Goals as goal

pub returns-then-d-lt1 : goal.returns-then-d-lt1
unfolding warned_by
returns-then-d-lt1 c = search onwards

pub returns-then-d-lt3 : goal.returns-then-d-lt3
unfolding warned_by
returns-then-d-lt3 c = search onwards

pub returns-then-ranked : goal.returns-then-ranked
unfolding warned_by
returns-then-ranked c = search onwards

pub returns : goal.returns
unfolding warned_by
returns c = search onwards
