-- `put_bank` writes the priority where it is spelled, the bank and the constant symbol. Assumes nothing.
use borrow.Author.Rules.{rules}
use native.Mathlib.Omega.{arith}
use Rattle.bank.proofs.Spelled.{spelled, bank-last}
use Rattle.bank.proofs.put_bank.Goals as goal

pub put_priority-e-requires : goal.put_priority-e-requires
put_priority-e-requires c = search (spelled, rules)

pub put_four-f-requires : goal.put_four-f-requires
put_four-f-requires c = search (spelled, rules)

pub put_four-requires : goal.put_four-requires
put_four-requires c = let a = c.args in
    (bank-last a.bank a.constant a.priority c.put_four-f.ensures c.put_priority-e.ensures (omega arith) (omega arith) (omega arith), omega arith)

pub returns : goal.returns
returns c = search spelled
