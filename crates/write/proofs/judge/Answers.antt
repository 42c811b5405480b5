-- `judge` tells 20 of the header first.
use Rattle.write.proofs.Exits.{heading}
use Rattle.write.proofs.judge.Goals as goal

pub returns-in-Err : goal.returns-in-Err
returns-in-Err c = search heading

pub returns-in-Ok : goal.returns-in-Ok
returns-in-Ok c = search heading
