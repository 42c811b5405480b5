-- `put_pair`: a number, and another behind it. Assumes nothing.
use borrow.Author.Rules.{rules}
use Rattle.record.proofs.file.Puts.{pairs}
use Rattle.record.proofs.file.put_pair.Goals as goal

pub put_signed-requires : goal.put_signed-requires
put_signed-requires c = search (pairs, rules)

pub returns : goal.returns
returns c = search pairs
