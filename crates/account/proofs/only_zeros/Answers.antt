-- `only_zeros`: zeros with no dash among them, or before and behind it.
use Rattle.account.proofs.Exits.{exits}
use Rattle.account.proofs.only_zeros.Goals as goal

pub returns-then-not-allzero : goal.returns-then-not-allzero
returns-then-not-allzero c = search exits

pub returns-then-n-d : goal.returns-then-n-d
returns-then-n-d c = search exits

pub returns-then-some_zeros : goal.returns-then-some_zeros
returns-then-some_zeros c = search exits

pub returns : goal.returns
returns c = search exits
