-- `measure_parts`: the parts of a message one after the other. Assumes nothing.
use borrow.Author.Rules.{rules}
use Rattle.fault.proofs.texts.Parts.{measured}
use Rattle.fault.proofs.texts.measure_parts.Goals as goal

pub find_byte-end-requires : goal.find_byte-end-requires
find_byte-end-requires c = search (measured, rules)

pub loop-end-init : goal.loop-end-init
loop-end-init c = search (measured, rules)

pub overflow_sub-end : goal.overflow_sub-end
overflow_sub-end c = search (measured, rules)

pub still_short-short-requires : goal.still_short-short-requires
still_short-short-requires c = search (measured, rules)

pub overflow_add-from : goal.overflow_add-from
overflow_add-from c = search (measured, rules)

pub overflow_add-count : goal.overflow_add-count
overflow_add-count c = search (measured, rules)

pub find_byte-end-requires-in-loop-end : goal.find_byte-end-requires-in-loop-end
find_byte-end-requires-in-loop-end c = search (measured, rules)

pub loop-end-smaller : goal.loop-end-smaller
loop-end-smaller c = search (measured, rules)

pub loop-end-preserved : goal.loop-end-preserved
loop-end-preserved c = search (measured, rules)

pub overflow_sub-end-2 : goal.overflow_sub-end-2
overflow_sub-end-2 c = search (measured, rules)

pub still_short-requires : goal.still_short-requires
still_short-requires c = search (measured, rules)

pub returns : goal.returns
returns c = search measured
