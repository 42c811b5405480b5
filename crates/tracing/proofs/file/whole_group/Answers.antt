-- `whole_group` meets its contract: how far a pass comes along the lines of a group. Assumes nothing.
use borrow.Author.Rules.{rules}
use Rattle.tracing.proofs.file.Stepping.{fars}
use Rattle.tracing.proofs.file.whole_group.Goals as goal

pub along-requires : goal.along-requires
along-requires c = search (fars, rules)

pub behind_group-requires : goal.behind_group-requires
behind_group-requires c = search (fars, rules)

pub in_group-x-requires : goal.in_group-x-requires
in_group-x-requires c = search (fars, rules)

pub blamed-requires : goal.blamed-requires
blamed-requires c = search (fars, rules)

pub in_group-requires : goal.in_group-requires
in_group-requires c = search (fars, rules)

pub at_end-requires : goal.at_end-requires
at_end-requires c = search (fars, rules)

pub returns-in-Closed : goal.returns-in-Closed
returns-in-Closed c = search (fars, rules)

pub returns-in-Halt : goal.returns-in-Halt
returns-in-Halt c = search (fars, rules)

pub returns-in-Ended : goal.returns-in-Ended
returns-in-Ended c = search (fars, rules)
