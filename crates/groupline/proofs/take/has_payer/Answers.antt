-- `has_payer` meets its contract: always, or where more than the date follows the first field. Assumes nothing.
use borrow.Author.Rules.{rules}
use Rattle.groupline.proofs.take.Groups.{payers}
use Rattle.groupline.proofs.take.has_payer.Goals as goal

pub returns-then-sh : goal.returns-then-sh
returns-then-sh c = search payers

pub field_end-end-requires : goal.field_end-end-requires
field_end-end-requires c = search (payers, rules)

pub overflow_sub-n : goal.overflow_sub-n
overflow_sub-n c = search (payers, rules)

pub bounds-s-n : goal.bounds-s-n
bounds-s-n c = search (payers, rules)

pub overflow_add-result : goal.overflow_add-result
overflow_add-result c = search (payers, rules)

pub returns-then-s-n-eq32 : goal.returns-then-s-n-eq32
returns-then-s-n-eq32 c = search payers

pub overflow_add-result-2 : goal.overflow_add-result-2
overflow_add-result-2 c = search (payers, rules)

pub returns : goal.returns
returns c = search payers
