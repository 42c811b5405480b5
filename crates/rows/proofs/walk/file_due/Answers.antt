-- `file_due` meets its contract: by the stage, and the account files before. Assumes nothing.
use Rattle.rows.proofs.walk.Dues.{dues}
use Rattle.rows.proofs.walk.file_due.Goals as goal

pub returns-in-NeedFile : goal.returns-in-NeedFile
returns-in-NeedFile c = search dues

pub returns-in-NeedGroup : goal.returns-in-NeedGroup
returns-in-NeedGroup c = search dues
