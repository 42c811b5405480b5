-- `refusal`: the record counts from 1, the byte from the file's start. Assumes nothing.
use Rattle.statement.proofs.reading.Answering.{refusal-told}
use Rattle.statement.proofs.reading.refusal.Goals as goal

pub returns : goal.returns
returns c = search refusal-told
