-- `bearing_at`: what is known of a line, stage by stage. Assumes nothing.
use Rattle.found.proofs.Stages.{bears}
use Rattle.found.proofs.bearing_at.Goals as goal

pub returns-in-First : goal.returns-in-First
returns-in-First c = search bears

pub returns-in-File : goal.returns-in-File
returns-in-File c = search bears

pub returns-in-Group : goal.returns-in-Group
returns-in-Group c = search bears

pub returns-in-Item : goal.returns-in-Item
returns-in-Item c = search bears
