-- `put_quoted_byte` puts a byte as it stands in quotes.
use Rattle.sentences.proofs.quoted.Quoting.{one_byte}
use Rattle.sentences.proofs.quoted.put_quoted_byte.Goals as goal

pub returns-then-is_plain : goal.returns-then-is_plain
returns-then-is_plain c = search one_byte

pub returns : goal.returns
returns c = search one_byte
