-- `list_that_day` meets its contract: 16 before anything is put, or all that the pass came to and the sheets that accept the file.
use borrow.Author.Rules.{rules}
use Rattle.findings.proofs.outcome.Comes.{outcome-verdict}
use Rattle.findings.proofs.Exits.{days}
use Rattle.findings.proofs.list_that_day.Goals as goal

pub follow-o-requires : goal.follow-o-requires
follow-o-requires c = search (outcome-verdict, days, rules)

pub count_of-count-requires : goal.count_of-count-requires
count_of-count-requires c = search (outcome-verdict, days, rules)

pub no_room-requires : goal.no_room-requires
no_room-requires c = search (outcome-verdict, days, rules)

pub returns-then-out-count : goal.returns-then-out-count
returns-then-out-count c = search (outcome-verdict, days, rules)

pub verdict_of-v-requires : goal.verdict_of-v-requires
verdict_of-v-requires c = search (outcome-verdict, days, rules)

pub refused_of-refused-requires : goal.refused_of-refused-requires
refused_of-refused-requires c = search (outcome-verdict, days, rules)

pub accepting-sheets-requires : goal.accepting-sheets-requires
accepting-sheets-requires c = search (outcome-verdict, days, rules)

pub put_findings-requires : goal.put_findings-requires
put_findings-requires c = search (outcome-verdict, days, rules)

pub returns : goal.returns
returns c = search (outcome-verdict, days, rules)
