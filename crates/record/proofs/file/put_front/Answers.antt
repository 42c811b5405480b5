-- `put_front`: two bytes, one more, and the account. Assumes nothing.
use Rattle.record.proofs.file.Puts.{ends}
use Rattle.record.proofs.file.put_front.Goals as goal

pub returns : goal.returns
returns c = search ends
