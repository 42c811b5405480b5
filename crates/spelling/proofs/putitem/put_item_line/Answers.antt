-- `spelling::putitem::put_item_line` meets its contract. Assumes nothing.
use borrow.Author.Rules.{rules}
use Rattle.spelling.proofs.putitem.Line.{items}
use Rattle.spelling.proofs.putitem.put_item_line.Goals as goal

pub put_front-e-requires : goal.put_front-e-requires
put_front-e-requires c = search (items, rules)

pub tail_end-requires : goal.tail_end-requires
tail_end-requires c = search (items, rules)

pub returns : goal.returns
returns c = search (items)
