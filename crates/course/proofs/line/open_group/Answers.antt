-- `open_group` meets its contract: the line refused, or the pass stands in the group. Assumes nothing.
use borrow.Author.Rules.{rules}
use Rattle.course.proofs.line.Leading.{groups-lead}
use Rattle.course.proofs.line.open_group.Goals as goal

pub group_opening-requires : goal.group_opening-requires
group_opening-requires c = search (groups-lead, rules)

pub returns-in-Ok : goal.returns-in-Ok
returns-in-Ok c = search (groups-lead, rules)

pub returns-in-Err : goal.returns-in-Err
returns-in-Err c = search (groups-lead, rules)
