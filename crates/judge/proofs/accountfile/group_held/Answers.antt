-- `group_held`: the numbers stay small. Assumes nothing.
use Rattle.judge.proofs.accountfile.Groups.{held_new}
use Rattle.judge.proofs.accountfile.group_held.Goals as goal

pub returns : goal.returns
returns c = search held_new
