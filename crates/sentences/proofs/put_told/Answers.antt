-- `put_told` puts a warning or a refusal.
use Rattle.sentences.proofs.Parts.{by_number}
use Rattle.sentences.proofs.put_told.Goals as goal

pub returns-then-x-eq0 : goal.returns-then-x-eq0
returns-then-x-eq0 c = search by_number

pub returns : goal.returns
returns c = search by_number
