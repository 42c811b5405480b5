-- `check_last`: the end of a collection's term: one month ahead. Assumes nothing.
use Rattle.fault.proofs.banks.Terms.{lasts}
use Rattle.fault.proofs.banks.check_last.Goals as goal

pub returns-then-month_ahead-date : goal.returns-then-month_ahead-date
returns-then-month_ahead-date c = search lasts

pub returns : goal.returns
returns c = search lasts
