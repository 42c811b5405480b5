-- `put_row`: the row of what a record is read as. Assumes nothing.
use Rattle.statement.proofs.reading.Filling.{rowputs}
use Rattle.statement.proofs.reading.put_row.Goals as goal

pub returns-in-Movement-Ok : goal.returns-in-Movement-Ok
returns-in-Movement-Ok c = search rowputs

pub returns-in-Head-Ok : goal.returns-in-Head-Ok
returns-in-Head-Ok c = search rowputs

pub returns-in-Movement-Err : goal.returns-in-Movement-Err
returns-in-Movement-Err c = search rowputs

pub returns-in-Head-Err : goal.returns-in-Head-Err
returns-in-Head-Err c = search rowputs

pub returns-in-Nothing : goal.returns-in-Nothing
returns-in-Nothing c = search rowputs
