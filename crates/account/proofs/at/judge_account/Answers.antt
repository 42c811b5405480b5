-- `judge_account` meets its contract: digits alone, a prefix with its dash, or no account. Assumes nothing.
use borrow.Author.Rules.{rules}
use Rattle.numeral.proofs.field.Number.{numbers}
use Rattle.account.proofs.at.Doubling.{smalls}
use Rattle.account.proofs.at.Judged.{judged}
use Rattle.account.proofs.at.judge_account.Goals as goal

pub ends-requires : goal.ends-requires
ends-requires c = search (numbers, smalls, rules)

pub returns-then-n-gt10 : goal.returns-then-n-gt10
returns-then-n-gt10 c = search (judged, rules)

pub returns-then-n-least : goal.returns-then-n-least
returns-then-n-least c = search (judged, rules)

pub returns-then-ends : goal.returns-then-ends
returns-then-ends c = search (judged, rules)

pub has_prefix-requires : goal.has_prefix-requires
has_prefix-requires c = search (numbers, smalls, rules)

pub judge_base-requires : goal.judge_base-requires
judge_base-requires c = search (numbers, smalls, rules)

pub returns-then-has_prefix : goal.returns-then-has_prefix
returns-then-has_prefix c = search (judged, rules)

pub returns : goal.returns
returns c = search (judged, rules)
