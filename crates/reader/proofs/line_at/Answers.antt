-- `line_at` meets its contract: the cursor's cut, or the file's end. Assumes nothing.
use Rattle.reader.proofs.Finding.{finds-line, finds-none}
use Rattle.reader.proofs.line_at.Goals as goal

pub returns-then-at-file : goal.returns-then-at-file
returns-then-at-file c = search finds-line

pub returns : goal.returns
returns c = search finds-none
