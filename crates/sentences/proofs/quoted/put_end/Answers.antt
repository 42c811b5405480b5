-- `put_end` puts the quote behind the bytes, and of how many they are the first.
use Rattle.sentences.proofs.Parts.{in_two}
use Rattle.sentences.proofs.quoted.put_end.Goals as goal

pub returns : goal.returns
returns c = search in_two
