-- `text::find_mark` meets its contract. Assumes nothing.
use mathlib.Core.Path.{refl}
use borrow.Author.Rules.{rules}
use Rattle.text.proofs.Marks.{marks}
use Rattle.text.proofs.find_mark.Goals as goal

pub loop-i-init : goal.loop-i-init
loop-i-init c = (search rules, refl)

pub overflow_sub-s : goal.overflow_sub-s
overflow_sub-s c = search (marks, rules)

pub overflow_add-i : goal.overflow_add-i
overflow_add-i c = search (marks, rules)

pub find_byte-colon-requires : goal.find_byte-colon-requires
find_byte-colon-requires c = search (marks, rules)

pub returns-then-colon-s : goal.returns-then-colon-s
returns-then-colon-s c = search marks

pub overflow_sub-colon : goal.overflow_sub-colon
overflow_sub-colon c = search (marks, rules)

pub starts_at-requires : goal.starts_at-requires
starts_at-requires c = search (marks, rules)

pub overflow_sub-result : goal.overflow_sub-result
overflow_sub-result c = search (marks, rules)

pub returns-then-starts_at : goal.returns-then-starts_at
returns-then-starts_at c = search marks

pub overflow_sub-i : goal.overflow_sub-i
overflow_sub-i c = search (marks, rules)

pub loop-i-smaller : goal.loop-i-smaller
loop-i-smaller c = search (marks, rules)

pub loop-i-preserved : goal.loop-i-preserved
loop-i-preserved c = search marks

pub returns : goal.returns
returns c = search marks
