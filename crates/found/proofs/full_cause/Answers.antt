-- `full_cause`: which limit was reached, stage by stage. Assumes nothing.
use Rattle.found.proofs.Stages.{limits}
use Rattle.found.proofs.full_cause.Goals as goal

pub returns-in-First : goal.returns-in-First
returns-in-First c = search limits

pub returns-in-File : goal.returns-in-File
returns-in-File c = search limits

pub returns-in-Group : goal.returns-in-Group
returns-in-Group c = search limits

pub returns-in-Item : goal.returns-in-Item
returns-in-Item c = search limits
