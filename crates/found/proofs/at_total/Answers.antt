-- `at_total`: the total of the open group, or none. Assumes nothing.
use Rattle.found.proofs.Stages.{totals}
use Rattle.found.proofs.at_total.Goals as goal

pub returns-in-First : goal.returns-in-First
returns-in-First c = search totals

pub returns-in-File : goal.returns-in-File
returns-in-File c = search totals

pub returns-in-Group : goal.returns-in-Group
returns-in-Group c = search totals

pub returns-in-Item : goal.returns-in-Item
returns-in-Item c = search totals
