-- `account_ok`: the rule by the two sums. Assumes nothing.
use Rattle.account.proofs.Rule.{sums-rule, base-rule}
use Rattle.account.proofs.account_ok.Goals as goal

pub returns-then-prefix-eq0 : goal.returns-then-prefix-eq0
returns-then-prefix-eq0 c = search (sums-rule, base-rule)

pub returns : goal.returns
returns c = search (sums-rule, base-rule)
