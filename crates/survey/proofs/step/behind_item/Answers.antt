-- `behind_item`: the state behind the row. Assumes nothing.
use borrow.Author.Rules.{rules}
use Rattle.survey.proofs.state.Next.{asked, lows, behinds}
use Rattle.survey.proofs.step.behind_item.Goals as goal

pub item_bytes-bytes-requires : goal.item_bytes-bytes-requires
item_bytes-bytes-requires c = search (asked, rules)

pub item_found-found-requires : goal.item_found-found-requires
item_found-found-requires c = search (asked, rules)

pub returns : goal.returns
returns c = record { low_2 = search (lows, rules); by_index = search behinds }
