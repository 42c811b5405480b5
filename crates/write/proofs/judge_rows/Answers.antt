-- `judge_rows` tells 20 of the rows, 21 of the header, 21 of the rows, or the length.
use Rattle.write.proofs.Exits.{judging, rows_fit}
use Rattle.write.proofs.judge_rows.Goals as goal

pub returns-in-Err-NotABatch : goal.returns-in-Err-NotABatch
returns-in-Err-NotABatch c = search judging

pub returns-in-Err-NotCarried : goal.returns-in-Err-NotCarried
returns-in-Err-NotCarried c = search judging

pub returns-in-Ok : goal.returns-in-Ok
returns-in-Ok c = rows_fit _ _ _ _ _ _ c.survey.ensures.result_value _ c.in-Ok.is _ c.file_len.ensures _ c.carry-in-Ok.ensures
