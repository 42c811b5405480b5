-- `put_group` puts the total and then the day. Assumes nothing.
use borrow.Author.Rules.{rules}
use Rattle.listing.proofs.group.Writes.{line_refused, line-put, lines}
use Rattle.listing.proofs.group.put_group.Goals as goal

pub returns-in_default : goal.returns-in_default
returns-in_default c = search line_refused

pub put_total-d-requires-clause-off_bound : goal.put_total-d-requires-clause-off_bound
put_total-d-requires-clause-off_bound c = search (lines, rules)

pub put_past-requires-clause-stop_bound : goal.put_past-requires-clause-stop_bound
put_past-requires-clause-stop_bound c = search lines

pub returns : goal.returns
returns c = search line-put
