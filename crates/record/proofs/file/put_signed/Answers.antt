-- `put_signed`: fourteen digits, and an exit for each sign. Assumes nothing.
use borrow.Author.Rules.{rules}
use Rattle.record.proofs.file.Puts.{signeds}
use Rattle.record.proofs.file.put_signed.Goals as goal

pub put_byte-requires : goal.put_byte-requires
put_byte-requires c = search (signeds, rules)

pub returns-then-x : goal.returns-then-x
returns-then-x c = search signeds

pub put_byte-requires-2 : goal.put_byte-requires-2
put_byte-requires-2 c = search (signeds, rules)

pub returns : goal.returns
returns c = search signeds
