-- `take_named` meets its contract. Assumes nothing.
use borrow.Author.Rules.{rules}
use Rattle.itemline.proofs.take.Named.{named-parts}
use Rattle.itemline.proofs.take.take_named.Goals as goal

pub overflow_add-from : goal.overflow_add-from
overflow_add-from c = search (named-parts, rules)

pub returns-then-from-a : goal.returns-then-from-a
returns-then-from-a c = search named-parts

pub take_others-requires : goal.take_others-requires
take_others-requires c = search (named-parts, rules)

pub returns : goal.returns
returns c = search named-parts
