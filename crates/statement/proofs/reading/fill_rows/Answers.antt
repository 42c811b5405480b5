-- `fill_rows`: record after record the rows stand in front of the old bytes. Assumes nothing.
use borrow.Author.Rules.{rules}
use Rattle.statement.proofs.reading.Filling.{filling}
use Rattle.statement.proofs.reading.fill_rows.Goals as goal

pub loop-at-init : goal.loop-at-init
loop-at-init c = search (filling, rules)

pub overflow_add-end : goal.overflow_add-end
overflow_add-end c = search (filling, rules)

pub slice_bounds-put_row-count : goal.slice_bounds-put_row-count
slice_bounds-put_row-count c = search (filling, rules)

pub put_row-next-requires : goal.put_row-next-requires
put_row-next-requires c = search (filling, rules)

pub loop-at-smaller : goal.loop-at-smaller
loop-at-smaller c = search (filling, rules)

pub loop-at-preserved : goal.loop-at-preserved
loop-at-preserved c = search (filling, rules)

pub shape_of-rows : goal.shape_of-rows
shape_of-rows c = search (filling, rules)

pub returns : goal.returns
returns c = search filling

pub slice_bounds-put_row-end : goal.slice_bounds-put_row-end
slice_bounds-put_row-end c = search (filling, rules)
