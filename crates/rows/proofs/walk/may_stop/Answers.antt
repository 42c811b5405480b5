-- `may_stop` meets its contract: by the stage. Assumes nothing.
use Rattle.rows.proofs.walk.Dues.{dues}
use Rattle.rows.proofs.walk.may_stop.Goals as goal

pub returns-in-Any : goal.returns-in-Any
returns-in-Any c = search dues

pub returns-in_default : goal.returns-in_default
returns-in_default c = search dues
