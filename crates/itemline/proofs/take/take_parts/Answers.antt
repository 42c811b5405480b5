-- `take_parts` meets its contract: one part, or as many as there are. Assumes nothing.
use borrow.Author.Rules.{rules}
use Rattle.itemline.proofs.take.Named.{all-parts}
use Rattle.itemline.proofs.take.take_parts.Goals as goal

pub overflow_add-from : goal.overflow_add-from
overflow_add-from c = search (all-parts, rules)

pub returns-then-from-a : goal.returns-then-from-a
returns-then-from-a c = search all-parts

pub take_more-requires : goal.take_more-requires
take_more-requires c = search (all-parts, rules)

pub returns : goal.returns
returns c = search all-parts
