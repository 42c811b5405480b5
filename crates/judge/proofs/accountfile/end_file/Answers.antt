-- `end_file` meets its contract: refused before the first account file, else accepted. Assumes nothing.
use Rattle.judge.proofs.accountfile.Files.{endings}
use Rattle.judge.proofs.accountfile.end_file.Goals as goal

pub returns-then-files-eq0 : goal.returns-then-files-eq0
returns-then-files-eq0 c = search endings

pub returns : goal.returns
returns c = search endings
