-- `put_past` puts a day that is past. Assumes nothing.
use Rattle.listing.proofs.group.Writes.{writes}
use Rattle.listing.proofs.group.put_past.Goals as goal

pub returns-then-warnings-eq0 : goal.returns-then-warnings-eq0
returns-then-warnings-eq0 c = search writes

pub returns : goal.returns
returns c = search writes
