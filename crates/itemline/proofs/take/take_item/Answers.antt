-- `take_item` meets its contract. Assumes nothing.
use borrow.Author.Rules.{rules}
use Rattle.itemline.proofs.take.Fields.{lines}
use Rattle.itemline.proofs.take.take_item.Goals as goal

pub take_payer-payer-requires : goal.take_payer-payer-requires
take_payer-payer-requires c = search (lines, rules)

pub from_payee-requires : goal.from_payee-requires
from_payee-requires c = search (lines, rules)

pub returns : goal.returns
returns c = record { result_value = search lines; sound = search rules }
