-- `write_on` tests the day, then the batch.
use Rattle.write.proofs.Exits.{days}
use Rattle.write.proofs.write_on.Goals as goal

pub returns-in-Err : goal.returns-in-Err
returns-in-Err c = search days

pub returns-in-Ok : goal.returns-in-Ok
returns-in-Ok c = search days

pub returns-else-real_day : goal.returns-else-real_day
returns-else-real_day c = search days
