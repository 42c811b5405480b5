-- `step_of`: by what the row was read as. Assumes nothing.
use Rattle.survey.proofs.step.Rows.{rows}
use Rattle.survey.proofs.step.step_of.Goals as goal

pub returns-in_default : goal.returns-in_default
returns-in_default c = search rows

pub returns-in-Item : goal.returns-in-Item
returns-in-Item c = search rows

pub returns-in-Group : goal.returns-in-Group
returns-in-Group c = search rows

pub returns-in-File : goal.returns-in-File
returns-in-File c = search rows
