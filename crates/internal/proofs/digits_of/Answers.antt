-- `digits_of`: the prefix, and the base behind it, fill the array. Assumes nothing.
use borrow.Author.Rules.{rules}
use Rattle.internal.proofs.Exits.{puttings}
use Rattle.internal.proofs.digits_of.Goals as goal

pub put_fixed-requires : goal.put_fixed-requires
put_fixed-requires c = search (puttings, rules)

pub returns : goal.returns
returns c = search (puttings, rules)
