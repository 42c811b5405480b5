-- `put_finding` puts a sentence or words.
use Rattle.sentences.proofs.Parts.{by_answer}
use Rattle.listing.specs.Listed.{spelled}
use Rattle.listing.proofs.put_finding.Goals as goal

pub returns-then-t : goal.returns-then-t
unfolding spelled
returns-then-t c = search by_answer

pub returns : goal.returns
unfolding spelled
returns c = search by_answer
