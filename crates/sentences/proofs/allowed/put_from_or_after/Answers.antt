-- `put_from_or_after` puts from today on, or after it.
use Rattle.sentences.proofs.Parts.{by_number}
use Rattle.sentences.proofs.allowed.put_from_or_after.Goals as goal

pub returns-then-most-eq0 : goal.returns-then-most-eq0
returns-then-most-eq0 c = search by_number

pub returns : goal.returns
returns c = search by_number
