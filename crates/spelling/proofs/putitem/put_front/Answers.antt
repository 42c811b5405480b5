-- `spelling::putitem::put_front` meets its contract. Assumes nothing.
use borrow.Author.Rules.{rules}
use Rattle.spelling.proofs.putitem.Front.{fronts}
use Rattle.spelling.proofs.putitem.put_front.Goals as goal

pub put_payer-e-requires : goal.put_payer-e-requires
put_payer-e-requires c = search (fronts, rules)

pub account_space-f-requires : goal.account_space-f-requires
account_space-f-requires c = search (fronts, rules)

pub two_numbers-g-requires : goal.two_numbers-g-requires
two_numbers-g-requires c = search (fronts, rules)

pub put_bank-requires : goal.put_bank-requires
put_bank-requires c = search (fronts, rules)

pub returns : goal.returns
returns c = search (fronts)
