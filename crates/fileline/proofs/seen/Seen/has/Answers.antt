-- `Seen::has` meets its contract: the word that holds the bit, shifted to it. Assumes nothing.
use borrow.Author.Rules.{rules}
use Rattle.fileline.specs.seen.Bits.{bit}
use Rattle.fileline.proofs.seen.Seen.has.Goals as goal

pub returns : goal.returns
unfolding bit
returns c = search rules
