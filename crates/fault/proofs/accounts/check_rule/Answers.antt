-- `check_rule`: the rule of an account's digits, of a prefix p and a base b: nothing is left of either by 11, and of the base two digits or more are not zero. Assumes nothing.
use Rattle.fault.proofs.accounts.Parts.{rules}
use Rattle.fault.proofs.accounts.check_rule.Goals as goal

pub returns-then-doubled_sum-ne0 : goal.returns-then-doubled_sum-ne0
returns-then-doubled_sum-ne0 c = search rules

pub returns-then-sum-ne0 : goal.returns-then-sum-ne0
returns-then-sum-ne0 c = search rules

pub returns-then-sum-eq0 : goal.returns-then-sum-eq0
returns-then-sum-eq0 c = search rules

pub returns : goal.returns
returns c = search rules
