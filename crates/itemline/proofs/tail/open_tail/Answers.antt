-- `open_tail`: each space announces what follows. Assumes nothing.
use Rattle.itemline.proofs.tail.Tails.{tails}
use Rattle.itemline.proofs.tail.open_tail.Goals as goal

pub returns-then-s-at-clause-k_value : goal.returns-then-s-at-clause-k_value
returns-then-s-at-clause-k_value c = λ y k. search tails depth 8

pub returns-then-s-symbol-clause-k_value : goal.returns-then-s-symbol-clause-k_value
returns-then-s-symbol-clause-k_value c = λ y k. search tails depth 8

pub returns-then-bare-clause-k_value : goal.returns-then-bare-clause-k_value
returns-then-bare-clause-k_value c = λ y k. search tails depth 8

pub returns-else-s-symbol-clause-k_value : goal.returns-else-s-symbol-clause-k_value
returns-else-s-symbol-clause-k_value c = λ y k. search tails depth 8

pub returns-else-bare-clause-k_value : goal.returns-else-bare-clause-k_value
returns-else-bare-clause-k_value c = λ y k. search tails depth 8
