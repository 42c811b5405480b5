-- `at_field`: how many bytes the field has. Assumes nothing.
use Rattle.listing.proofs.group.Writes.{fields}
use Rattle.listing.proofs.group.at_field.Goals as goal

pub returns : goal.returns
returns c = search fields
