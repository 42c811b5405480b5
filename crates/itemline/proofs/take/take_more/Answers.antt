-- `take_more` meets its contract. Assumes nothing.
use borrow.Author.Rules.{rules}
use Rattle.text.proofs.span.Turns.{fours}
use Rattle.itemline.proofs.take.take_more.Goals as goal

pub part_at-b-requires : goal.part_at-b-requires
part_at-b-requires c = search (fours, rules)

pub part_at-c-requires : goal.part_at-c-requires
part_at-c-requires c = search (fours, rules)

pub part_at-d-requires : goal.part_at-d-requires
part_at-d-requires c = search (fours, rules)

pub returns : goal.returns
returns c = search fours
