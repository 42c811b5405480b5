-- `judge_base` meets its contract: a base behind its prefix. Assumes nothing.
use borrow.Author.Rules.{rules}
use Rattle.numeral.proofs.field.Number.{numbers}
use Rattle.account.proofs.at.Doubling.{smalls}
use Rattle.account.proofs.at.Judged.{judged}
use Rattle.account.proofs.at.judge_base.Goals as goal

pub ends-requires : goal.ends-requires
ends-requires c = search (numbers, smalls, rules)

pub returns-then-end-from : goal.returns-then-end-from
returns-then-end-from c = λ x l f. search judged

pub returns-then-ends : goal.returns-then-ends
returns-then-ends c = λ x l f. search judged

pub returns : goal.returns
returns c = λ x l f. search judged
