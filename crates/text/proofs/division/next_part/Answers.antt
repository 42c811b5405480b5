-- `next_part` meets its contract. Assumes nothing.
use borrow.Author.Rules.{rules}
use Rattle.text.proofs.division.Turns.{nexts}
use Rattle.text.proofs.division.next_part.Goals as goal

pub barred-requires : goal.barred-requires
barred-requires c = search (nexts, rules)

pub returns-then-barred-eq0 : goal.returns-then-barred-eq0
returns-then-barred-eq0 c = search nexts

pub first_part-requires : goal.first_part-requires
first_part-requires c = search (nexts, rules)

pub returns : goal.returns
returns c = search nexts
