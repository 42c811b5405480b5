-- `take_payer` meets its contract. Assumes nothing.
use borrow.Author.Rules.{rules}
use Rattle.itemline.proofs.take.Fields.{payers}
use Rattle.itemline.proofs.take.take_payer.Goals as goal

pub take_account-payer-requires : goal.take_account-payer-requires
take_account-payer-requires c = search (payers, rules)

pub overflow_add-result : goal.overflow_add-result
overflow_add-result c = search (payers, rules)

pub returns-then-single : goal.returns-then-single
returns-then-single c = λ k. search payers

pub returns : goal.returns
returns c = λ k. search payers
