-- `carry` tells the header's 21 first.
use Rattle.write.proofs.Exits.{carrying}
use Rattle.write.proofs.carry.Goals as goal

pub returns-in-Err : goal.returns-in-Err
returns-in-Err c = search carrying

pub returns-in-Ok : goal.returns-in-Ok
returns-in-Ok c = search carrying
