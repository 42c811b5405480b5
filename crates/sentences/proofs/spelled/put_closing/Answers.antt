-- `put_closing` puts the lines that close.
use Rattle.sentences.specs.Allowed.{closing_words}
use Rattle.sentences.proofs.Parts.{by_number}
use Rattle.sentences.proofs.spelled.put_closing.Goals as goal

pub returns-then-field-eq50 : goal.returns-then-field-eq50
unfolding closing_words
returns-then-field-eq50 c = search by_number

pub returns : goal.returns
unfolding closing_words
returns c = search by_number
