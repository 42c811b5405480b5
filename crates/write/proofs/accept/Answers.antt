-- `accept` puts the file if it has room, and says how many bytes it has.
use borrow.Author.Rules.{rules}
use Rattle.write.proofs.Exits.{accepting}
use Rattle.write.proofs.accept.Goals as goal

pub returns-then-out-bytes : goal.returns-then-out-bytes
returns-then-out-bytes c = search accepting

pub fill-requires : goal.fill-requires
fill-requires c = search (accepting, rules)

pub returns : goal.returns
returns c = search accepting
