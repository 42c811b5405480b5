-- `group_due` meets its contract: by the stage. Assumes nothing.
use Rattle.rows.proofs.walk.Dues.{dues}
use Rattle.rows.proofs.walk.group_due.Goals as goal

pub returns-in-NeedGroup : goal.returns-in-NeedGroup
returns-in-NeedGroup c = search dues

pub returns-in_default : goal.returns-in_default
returns-in_default c = search dues
