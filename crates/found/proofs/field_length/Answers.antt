-- `field_length`: up to the next space or the file's end. Assumes nothing.
use Rattle.found.proofs.Exits.{fields}
use Rattle.found.proofs.field_length.Goals as goal

pub returns-then-byte-f : goal.returns-then-byte-f
returns-then-byte-f c = search fields

pub returns : goal.returns
returns c = search fields
