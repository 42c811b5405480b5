-- `put_record`: the spelling of what a row is read as. Assumes nothing.
use Rattle.statement.proofs.writing.Filling.{recordputs}
use Rattle.statement.proofs.writing.put_record.Goals as goal

pub returns-in-Movement-Ok : goal.returns-in-Movement-Ok
returns-in-Movement-Ok c = search recordputs

pub returns-in-Head-Ok : goal.returns-in-Head-Ok
returns-in-Head-Ok c = search recordputs

pub returns-in-Movement-Err : goal.returns-in-Movement-Err
returns-in-Movement-Err c = search recordputs

pub returns-in-Head-Err : goal.returns-in-Head-Err
returns-in-Head-Err c = search recordputs

pub returns-in-Nothing : goal.returns-in-Nothing
returns-in-Nothing c = search recordputs
