-- `group_step` meets its contract: a group, the end of the account file, or a line out of turn. Assumes nothing.
use Rattle.judge.proofs.accountfile.Groups.{group_lines}
use Rattle.judge.proofs.accountfile.group_step.Goals as goal

pub returns-then-f-at : goal.returns-then-f-at
returns-then-f-at c = search group_lines

pub returns-in-FileEnd : goal.returns-in-FileEnd
returns-in-FileEnd c = search group_lines

pub returns-in_default : goal.returns-in_default
returns-in_default c = search group_lines
