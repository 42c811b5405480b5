-- `put_date` puts a day: the year, the month and the day, with dashes between them.
use Rattle.sentences.specs.Allowed.{dated}
use Rattle.sentences.proofs.Parts.{in_three}
use Rattle.sentences.proofs.figures.put_date.Goals as goal

pub returns : goal.returns
unfolding dated
returns c = search in_three
