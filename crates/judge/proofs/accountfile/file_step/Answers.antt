-- `file_step` meets its contract: the end of the file, an account file, or a line out of turn. Assumes nothing.
use Rattle.judge.proofs.accountfile.Files.{file-lines}
use Rattle.judge.proofs.accountfile.file_step.Goals as goal

pub returns-then-f-at : goal.returns-then-f-at
returns-then-f-at c = search file-lines

pub returns-in_default : goal.returns-in_default
returns-in_default c = search file-lines
