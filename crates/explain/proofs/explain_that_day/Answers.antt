-- `explain_that_day` meets its contract: the sheets' lines fit where they are put aside, and the text with them is the file's.
use borrow.Author.Rules.{rules}
use Rattle.findings.proofs.outcome.Comes.{outcome-verdict}
use Rattle.explain.proofs.Exits.{asides}
use Rattle.explain.proofs.explain_that_day.Goals as goal

pub follow-o-requires : goal.follow-o-requires
follow-o-requires c = search (outcome-verdict, asides, rules)

pub verdict_of-v-requires : goal.verdict_of-v-requires
verdict_of-v-requires c = search (outcome-verdict, asides, rules)

pub put_sheets-n-requires : goal.put_sheets-n-requires
put_sheets-n-requires c = search (outcome-verdict, asides, rules)

pub slice_bounds-put_whole-end : goal.slice_bounds-put_whole-end
slice_bounds-put_whole-end c = search (asides, rules)

pub put_whole-requires : goal.put_whole-requires
put_whole-requires c = record { sane = search rules; comes = search rules; words_value = search rules; lines_len_bound = search (asides, rules) }

pub returns : goal.returns
returns c = search (outcome-verdict, asides, rules)
