-- `four_zeros` meets its contract: one byte after the other. Assumes nothing.
use Rattle.bank.proofs.at.Plain.{zeros}
use Rattle.bank.proofs.at.four_zeros.Goals as goal

pub returns-then-s-at-ne48 : goal.returns-then-s-at-ne48
returns-then-s-at-ne48 c = search zeros

pub returns-then-s-at-ne48-2 : goal.returns-then-s-at-ne48-2
returns-then-s-at-ne48-2 c = search zeros

pub returns-then-s-at-ne48-3 : goal.returns-then-s-at-ne48-3
returns-then-s-at-ne48-3 c = search zeros

pub returns : goal.returns
returns c = search zeros
