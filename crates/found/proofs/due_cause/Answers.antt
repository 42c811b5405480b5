-- `due_cause`: which line was due, stage by stage. Assumes nothing.
use Rattle.found.proofs.Stages.{causes}
use Rattle.found.proofs.due_cause.Goals as goal

pub returns-in-First : goal.returns-in-First
returns-in-First c = search causes

pub returns-in-File : goal.returns-in-File
returns-in-File c = search causes

pub returns-in-Group : goal.returns-in-Group
returns-in-Group c = search causes

pub returns-in-Item : goal.returns-in-Item
returns-in-Item c = search causes
