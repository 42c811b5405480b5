-- `account_len`: with and without a prefix.
use Rattle.account.proofs.Spelled.{spelled}
use Rattle.account.proofs.account_len.Goals as goal

pub returns-then-prefix-eq0 : goal.returns-then-prefix-eq0
returns-then-prefix-eq0 c = search spelled

pub returns : goal.returns
returns c = search spelled
