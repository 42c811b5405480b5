-- `judge_sums` meets its contract: sums that keep the rule, or not. Assumes nothing.
use Rattle.account.proofs.at.Judged.{judged}
use Rattle.account.proofs.at.judge_sums.Goals as goal

pub returns-then-sums_ok : goal.returns-then-sums_ok
returns-then-sums_ok c = λ x y l f m g. search judged

pub returns : goal.returns
returns c = λ x y l f m g. search judged
