-- `pass_half` meets its contract. Assumes nothing.
use Rattle.text.proofs.division.Turns.{halves}
use Rattle.text.proofs.division.pass_half.Goals as goal

pub returns-then-s-at-lt8 : goal.returns-then-s-at-lt8
returns-then-s-at-lt8 c = search halves

pub returns-then-all_plain : goal.returns-then-all_plain
returns-then-all_plain c = search halves

pub returns : goal.returns
returns c = search halves
