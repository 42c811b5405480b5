-- `collected` tells which banks may be collected from on a day. Assumes nothing.
use Rattle.calendar.proofs.Terms.{banks-due}
use Rattle.calendar.proofs.term.collected.Goals as goal

pub returns-then-collect_allowed : goal.returns-then-collect_allowed
returns-then-collect_allowed c = search banks-due

pub returns-then-collect_allowed-2 : goal.returns-then-collect_allowed-2
returns-then-collect_allowed-2 c = search banks-due

pub returns : goal.returns
returns c = search banks-due
