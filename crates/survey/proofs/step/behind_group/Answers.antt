-- `behind_group`: the state behind the row. Assumes nothing.
use borrow.Author.Rules.{rules}
use Rattle.survey.proofs.state.Next.{asked, lows, behinds}
use Rattle.survey.proofs.step.behind_group.Goals as goal

pub group_bytes-bytes-requires : goal.group_bytes-bytes-requires
group_bytes-bytes-requires c = search (asked, rules)

pub group_found-found-requires : goal.group_found-found-requires
group_found-found-requires c = search (asked, rules)

pub returns : goal.returns
returns c = record { low_2 = search (lows, rules); behind = search behinds }
