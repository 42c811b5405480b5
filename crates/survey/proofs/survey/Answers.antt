-- `survey` meets its contract: the outcome of all rows is that of the rows that are left. Assumes nothing.
use Rattle.std.proofs.Common.{◌≡◌, ◌/◌, length, arith}
use Rattle.survey.proofs.Going.{goings, going-rest, going_end}
use Rattle.survey.proofs.survey.Goals as goal
use Rattle.survey.proofs.survey.Goals.{in-Item, in-Group, in-File}

pub loop-i-init : goal.loop-i-init
loop-i-init c = search goings

pub returns-in-Err-clause-result_value : goal.returns-in-Err-clause-result_value
returns-in-Err-clause-result_value c = search goings

pub loop-i-preserved : goal.loop-i-preserved
loop-i-preserved c =
    elim c.match-step.branch [
      | in-Item w ↦ rw (w.all-is, w.kind-is, w.due-is, w.seen-is, w.st-is) (search goings)
      | in-Group w ↦ rw (w.all-is, w.kind-is, w.due-is, w.seen-is, w.st-is) (search goings)
      | in-File w ↦ rw (w.all-is, w.kind-is, w.due-is, w.seen-is, w.st-is) (search goings)
    ]

pub returns-then-count-rows-clause-result_value : goal.returns-then-count-rows-clause-result_value
returns-then-count-rows-clause-result_value c =
    let last : c.loop-i.i ≡ length c.args.rows.now / 192 = omega arith in
    rw (← last) (going-rest c.loop-i.invariant last (omega arith))

pub returns-clause-result_value : goal.returns-clause-result_value
returns-clause-result_value c =
    let last : c.loop-i.i ≡ length c.args.rows.now / 192 = omega arith in
    going_end c.loop-i.invariant last (omega arith) _ (rw last c.finish.ensures.result_value)
