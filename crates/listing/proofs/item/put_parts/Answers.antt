-- `put_parts` puts four parts one after another.
use Rattle.listing.specs.item.Found.{parts_warned}
use Rattle.listing.proofs.Putting.{putting}
use Rattle.listing.proofs.item.put_parts.Goals as goal

pub returns : goal.returns
unfolding parts_warned
returns c = search putting depth 8
