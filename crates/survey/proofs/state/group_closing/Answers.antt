-- `group_closing` meets its contract: by the stage, and the width of the open group's total. Assumes nothing.
use borrow.Author.Rules.{rules}
use Rattle.survey.proofs.state.Small.{closings}
use Rattle.survey.proofs.state.group_closing.Goals as goal

pub returns-in-NeedFile : goal.returns-in-NeedFile
returns-in-NeedFile c = search (closings, rules)

pub returns-in-NeedGroup : goal.returns-in-NeedGroup
returns-in-NeedGroup c = search (closings, rules)

pub returns-in-NeedItem : goal.returns-in-NeedItem
returns-in-NeedItem c = search (closings, rules)

pub returns-in-Any : goal.returns-in-Any
returns-in-Any c = search (closings, rules)
