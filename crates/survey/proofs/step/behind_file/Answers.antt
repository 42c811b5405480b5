-- `behind_file`: the state behind the row. Assumes nothing.
use borrow.Author.Rules.{rules}
use Rattle.survey.proofs.state.Next.{asked, lows, behinds}
use Rattle.survey.proofs.step.behind_file.Goals as goal

pub file_bytes-bytes-requires : goal.file_bytes-bytes-requires
file_bytes-bytes-requires c = search (asked, rules)

pub file_found-found-requires : goal.file_found-found-requires
file_found-found-requires c = search (asked, rules)

pub returns : goal.returns
returns c = record { low_2 = search (lows, rules); by_index = search behinds }
