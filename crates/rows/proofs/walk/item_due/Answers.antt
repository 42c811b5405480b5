-- `item_due` meets its contract: by the stage, and the account file's items before. Assumes nothing.
use Rattle.rows.proofs.walk.Dues.{dues}
use Rattle.rows.proofs.walk.item_due.Goals as goal

pub returns-in-NeedItem : goal.returns-in-NeedItem
returns-in-NeedItem c = search dues

pub returns-in-NeedFile : goal.returns-in-NeedFile
returns-in-NeedFile c = search dues
