-- `put_total` puts a total that is not the sum. Assumes nothing.
use Rattle.listing.proofs.group.Writes.{writes}
use Rattle.listing.proofs.group.put_total.Goals as goal

pub returns-then-total-exact : goal.returns-then-total-exact
returns-then-total-exact c = search writes

pub returns : goal.returns
returns c = search writes
