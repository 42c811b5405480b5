-- `is_due`: which kinds of line are due, stage by stage. Assumes nothing.
use Rattle.scan.proofs.kind.Same.{tested-is}
use Rattle.found.proofs.Stages.{dues}
use Rattle.found.proofs.is_due.Goals as goal

pub returns-in-First : goal.returns-in-First
returns-in-First c = search (dues, tested-is)

pub returns-in-File : goal.returns-in-File
returns-in-File c = search (dues, tested-is)

pub returns-in-Group : goal.returns-in-Group
returns-in-Group c = search dues

pub returns-in-Item : goal.returns-in-Item
returns-in-Item c = search dues
