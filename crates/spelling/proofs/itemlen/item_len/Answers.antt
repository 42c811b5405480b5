-- `spelling::itemlen::item_len` meets its contract. Assumes nothing.
use borrow.Author.Rules.{rules}
use Rattle.spelling.proofs.itemlen.Whole.{item-long}
use Rattle.spelling.proofs.itemlen.item_len.Goals as goal

pub returns : goal.returns
returns c = search (item-long, rules)
