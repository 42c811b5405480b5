-- `fill_file`: row after row the records stand in front of the old bytes. Assumes nothing.
use borrow.Author.Rules.{rules}
use Rattle.statement.proofs.writing.Filling.{filling}
use Rattle.statement.proofs.writing.fill_file.Goals as goal

pub loop-at-init : goal.loop-at-init
loop-at-init c = search (filling, rules)

pub overflow_add-end : goal.overflow_add-end
overflow_add-end c = search (filling, rules)

pub slice_bounds-put_record-count : goal.slice_bounds-put_record-count
slice_bounds-put_record-count c = search (filling, rules)

pub put_record-next-requires : goal.put_record-next-requires
put_record-next-requires c = search (filling, rules)

pub loop-at-smaller : goal.loop-at-smaller
loop-at-smaller c = search (filling, rules)

pub loop-at-preserved : goal.loop-at-preserved
loop-at-preserved c = search (filling, rules)

pub shape_of-out : goal.shape_of-out
shape_of-out c = search (filling, rules)

pub returns : goal.returns
returns c = search filling

pub slice_bounds-put_record-end : goal.slice_bounds-put_record-end
slice_bounds-put_record-end c = search (filling, rules)
