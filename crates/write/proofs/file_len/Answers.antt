-- `file_len` adds the first line and its CR LF.
use Rattle.write.proofs.Exits.{whole_length}
use Rattle.write.proofs.file_len.Goals as goal

pub returns : goal.returns
returns c = search whole_length
