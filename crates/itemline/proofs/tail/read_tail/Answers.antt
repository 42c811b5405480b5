-- `read_tail`: the one or the other, by the sheet. Assumes nothing.
use borrow.Author.Rules.{rules}
use Rattle.itemline.proofs.tail.Tails.{kinds}
use Rattle.itemline.proofs.tail.read_tail.Goals as goal

pub returns-then-fixed : goal.returns-then-fixed
returns-then-fixed c = search (kinds, rules)

pub returns : goal.returns
returns c = search (kinds, rules)
