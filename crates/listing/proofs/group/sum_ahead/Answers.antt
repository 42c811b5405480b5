-- `sum_ahead`: line after line the sum stays exact. Assumes nothing.
use borrow.Author.Rules.{rules}
use Rattle.listing.proofs.group.Sums.{sums}
use Rattle.listing.proofs.group.sum_ahead.Goals as goal

pub loop-at-init : goal.loop-at-init
loop-at-init c = search (sums, rules)

pub returns-then-sum-gt99999999999999 : goal.returns-then-sum-gt99999999999999
returns-then-sum-gt99999999999999 c = search sums

pub next_line-cut-requires : goal.next_line-cut-requires
next_line-cut-requires c = search (sums, rules)

pub slice_bounds-is_item-count : goal.slice_bounds-is_item-count
slice_bounds-is_item-count c = search (sums, rules)

pub slice_bounds-is_item-start : goal.slice_bounds-is_item-start
slice_bounds-is_item-start c = search (sums, rules)

pub slice_bounds-is_item-end : goal.slice_bounds-is_item-end
slice_bounds-is_item-end c = search (sums, rules)

pub is_item-requires : goal.is_item-requires
is_item-requires c = search (sums, rules)

pub slice_bounds-take_item-count : goal.slice_bounds-take_item-count
slice_bounds-take_item-count c = search (sums, rules)

pub slice_bounds-take_item-start : goal.slice_bounds-take_item-start
slice_bounds-take_item-start c = search (sums, rules)

pub slice_bounds-take_item-end : goal.slice_bounds-take_item-end
slice_bounds-take_item-end c = search (sums, rules)

pub take_item-item-requires : goal.take_item-item-requires
take_item-item-requires c = search (sums, rules)

pub overflow_add-sum : goal.overflow_add-sum
overflow_add-sum c = search (sums, rules)

pub loop-at-smaller : goal.loop-at-smaller
loop-at-smaller c = search (sums, rules)

pub loop-at-preserved : goal.loop-at-preserved
loop-at-preserved c = search (sums, rules)

pub returns-else-is_item : goal.returns-else-is_item
returns-else-is_item c = search sums

pub returns : goal.returns
returns c = search sums
