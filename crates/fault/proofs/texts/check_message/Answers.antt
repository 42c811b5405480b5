-- `check_message`: a message from `from` on: how many parts it has, how long they and the name are, and the parts' bytes. Assumes nothing.
use borrow.Author.Rules.{rules}
use Rattle.fault.proofs.texts.Marks.{messages}
use Rattle.fault.proofs.texts.check_message.Goals as goal

pub slice_bounds-measure_parts-end : goal.slice_bounds-measure_parts-end
slice_bounds-measure_parts-end c = search (messages, rules)

pub returns-then-most-m : goal.returns-then-most-m
returns-then-most-m c = search messages

pub ends_short-requires : goal.ends_short-requires
ends_short-requires c = search (messages, rules)

pub slice_bounds-bytes_taken-end : goal.slice_bounds-bytes_taken-end
slice_bounds-bytes_taken-end c = search (messages, rules)

pub returns-then-bytes_taken : goal.returns-then-bytes_taken
returns-then-bytes_taken c = search messages

pub returns-then-ends_short : goal.returns-then-ends_short
returns-then-ends_short c = search messages

pub returns : goal.returns
returns c = search messages
