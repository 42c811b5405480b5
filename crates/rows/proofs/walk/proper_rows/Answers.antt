-- `proper_rows` meets its contract: the verdict over all rows is that of the rows that are left. Assumes nothing.
use Rattle.std.proofs.Common.{◌≡◌, ◌/◌, length, arith}
use Rattle.rows.proofs.walk.Going.{goings, going-rest, going-stop, going-missing}
use Rattle.rows.proofs.walk.proper_rows.Goals as goal
use Rattle.rows.proofs.walk.proper_rows.Goals.{else-rows-count-via-then-rows-count+else-may_stop, else-rows-count-via-else-rows-count}

pub loop-i-init : goal.loop-i-init
loop-i-init c = search goings

pub returns-in-Err : goal.returns-in-Err
returns-in-Err c = search goings

pub loop-i-preserved : goal.loop-i-preserved
loop-i-preserved c = search goings

pub returns-then-may_stop : goal.returns-then-may_stop
returns-then-may_stop c = going-stop c.loop-i.invariant (omega arith) _ c.may_stop.ensures c.if-may_stop.true

pub returns : goal.returns
returns c =
    let last : c.loop-i.i ≡ length c.args.rows.now / 192 = omega arith in
    rw (← last)
    (elim c.else-rows-count.branch [
      | else-rows-count-via-then-rows-count+else-may_stop w ↦ going-missing c.loop-i.invariant (omega arith) _ w.may_stop.ensures w.if-may_stop.false
      | else-rows-count-via-else-rows-count w ↦ going-rest c.loop-i.invariant last (λ q. w.if-rows-count.false (omega arith))
    ])
