-- `bank_len` gives the length of the canonical spelling.
use Rattle.bank.proofs.Spelled.{spelled}
use Rattle.bank.proofs.bank_len.Goals as goal

pub returns-then-priority-eq5 : goal.returns-then-priority-eq5
returns-then-priority-eq5 c = search spelled

pub returns : goal.returns
returns c = search spelled
