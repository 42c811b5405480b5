-- `first-part` meets its contract. Assumes nothing.
use borrow.Author.Rules.{rules}
use Rattle.text.proofs.division.Turns.{firsts}
use Rattle.text.proofs.division.first_part.Goals as goal

pub starts_at-requires : goal.starts_at-requires
starts_at-requires c = search (firsts, rules)

pub overflow_sub-result : goal.overflow_sub-result
overflow_sub-result c = search (firsts, rules)

pub overflow_add-result : goal.overflow_add-result
overflow_add-result c = search (firsts, rules)

pub returns-then-starts_at : goal.returns-then-starts_at
returns-then-starts_at c = search firsts

pub overflow_sub-result-2 : goal.overflow_sub-result-2
overflow_sub-result-2 c = search (firsts, rules)

pub returns : goal.returns
returns c = search firsts
