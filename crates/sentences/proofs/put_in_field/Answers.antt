-- `put_in_field` puts the field.
use Rattle.sentences.proofs.Parts.{in_three}
use Rattle.sentences.proofs.put_in_field.Goals as goal

pub returns : goal.returns
returns c = search in_three
