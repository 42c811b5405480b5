-- `put_from_day` puts the day from which on.
use Rattle.sentences.specs.Allowed.{from_day}
use Rattle.sentences.proofs.Parts.{in_two}
use Rattle.sentences.proofs.figures.put_from_day.Goals as goal

pub returns : goal.returns
unfolding from_day
returns c = search in_two
