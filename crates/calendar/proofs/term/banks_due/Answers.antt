-- `banks_due` tells which banks may be due on a day. Assumes nothing.
use Rattle.calendar.proofs.Terms.{banks-due}
use Rattle.calendar.proofs.term.banks_due.Goals as goal

pub returns-then-is_collection : goal.returns-then-is_collection
returns-then-is_collection c = search banks-due

pub returns : goal.returns
returns c = search banks-due
