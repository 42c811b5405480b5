-- `bank_from` meets its contract. Assumes nothing.
use Rattle.bank.proofs.at.Taken.{froms}
use Rattle.bank.proofs.at.bank_from.Goals as goal

pub returns-then-s-at : goal.returns-then-s-at
returns-then-s-at c = search froms

pub returns-then-s-at-le32 : goal.returns-then-s-at-le32
returns-then-s-at-le32 c = search froms

pub returns-then-s-at-2 : goal.returns-then-s-at-2
returns-then-s-at-2 c = search froms

pub returns-then-s-at-le32-2 : goal.returns-then-s-at-le32-2
returns-then-s-at-le32-2 c = search froms

pub returns : goal.returns
returns c = search froms
