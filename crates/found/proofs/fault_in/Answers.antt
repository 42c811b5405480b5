-- `fault_in`: the walk's fault, or the total. Assumes nothing.
use Rattle.found.proofs.Walks.{walks}
use Rattle.found.proofs.fault_in.Goals as goal

pub returns-in-Ok : goal.returns-in-Ok
returns-in-Ok c = search walks

pub returns-in-Err : goal.returns-in-Err
returns-in-Err c = search walks
