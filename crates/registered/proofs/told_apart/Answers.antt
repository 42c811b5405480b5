-- `told_apart` meets its contract: what is no 9, a 9 that the file gets by itself, and 22. Assumes nothing.
use Rattle.registered.proofs.Judging.{aparts}
use Rattle.registered.proofs.told_apart.Goals as goal

pub returns-then-ne : goal.returns-then-ne
returns-then-ne c = search aparts

pub returns-in-Err : goal.returns-in-Err
returns-in-Err c = search aparts

pub returns-in_default : goal.returns-in_default
returns-in_default c = search aparts

pub returns-in_default-2 : goal.returns-in_default-2
returns-in_default-2 c = search aparts
