-- `from_bank`: the bank field, and the tail behind it. Assumes nothing.
use borrow.Author.Rules.{rules}
use Rattle.itemline.proofs.take.Fields.{bankings}
use Rattle.itemline.proofs.take.from_bank.Goals as goal

pub take_bank-bank-requires : goal.take_bank-bank-requires
take_bank-bank-requires c = search (bankings, rules)

pub from_tail-requires : goal.from_tail-requires
from_tail-requires c = search (bankings, rules)

pub returns : goal.returns
returns c = search (bankings, rules)
