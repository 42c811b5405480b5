-- `full_limit`: how many were allowed, stage by stage. Assumes nothing.
use Rattle.found.proofs.Stages.{mosts}
use Rattle.found.proofs.full_limit.Goals as goal

pub returns-in-First : goal.returns-in-First
returns-in-First c = search mosts

pub returns-in-File : goal.returns-in-File
returns-in-File c = search mosts

pub returns-in-Group : goal.returns-in-Group
returns-in-Group c = search mosts

pub returns-in-Item : goal.returns-in-Item
returns-in-Item c = search mosts
