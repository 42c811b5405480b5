-- `digits_at`: the part that is handed on is the field. Assumes nothing.
use Rattle.record.proofs.file.Fields.{fields}
use Rattle.record.proofs.file.digits_at.Goals as goal

pub returns : goal.returns
returns c = search fields
