-- `put_of_how_many` puts of how many bytes they are the first.
use Rattle.sentences.specs.Quoted.{of_how_many}
use Rattle.numeral.proofs.counted.Laws.{counted-nothing}
use Rattle.sentences.proofs.Parts.{counted-lt, counted-ge, in_three}
use Rattle.sentences.proofs.quoted.put_of_how_many.Goals as goal

pub returns-then-n-gt60 : goal.returns-then-n-gt60
unfolding of_how_many
returns-then-n-gt60 c = search (counted-lt, in_three)

pub returns : goal.returns
unfolding of_how_many
returns c = search (counted-ge, counted-nothing)
