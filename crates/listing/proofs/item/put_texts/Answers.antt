-- `put_texts` puts the parts and the name.
use Rattle.listing.specs.item.Found.{texts_warned}
use Rattle.listing.proofs.Putting.{putting}
use Rattle.listing.proofs.item.put_texts.Goals as goal

pub returns : goal.returns
unfolding texts_warned
returns c = search putting depth 8
