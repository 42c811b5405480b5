-- `put_end`: what is kept, and CR LF. Assumes nothing.
use Rattle.record.proofs.file.Puts.{ends}
use Rattle.record.proofs.file.put_end.Goals as goal

pub returns : goal.returns
returns c = search ends
