-- `is_full`: whether there is room, stage by stage. Assumes nothing.
use Rattle.found.proofs.Stages.{fulls}
use Rattle.found.proofs.is_full.Goals as goal

pub returns-in-First : goal.returns-in-First
returns-in-First c = search fulls

pub returns-in-File : goal.returns-in-File
returns-in-File c = search fulls

pub returns-in-Group : goal.returns-in-Group
returns-in-Group c = search fulls

pub returns-in-Item : goal.returns-in-Item
returns-in-Item c = search fulls
