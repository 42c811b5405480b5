-- `put_and_if` puts a text, and one behind it or nothing.
use Rattle.sentences.proofs.Parts.{in_two}
use Rattle.sentences.proofs.spelled.put_and_if.Goals as goal

pub returns : goal.returns
returns c = search in_two
