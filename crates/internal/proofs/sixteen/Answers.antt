-- `sixteen`: the bytes fill the array. Assumes nothing.
use borrow.Author.Rules.{rules}
use Rattle.internal.proofs.Exits.{puttings}
use Rattle.internal.proofs.sixteen.Goals as goal

pub returns : goal.returns
returns c = search (puttings, rules)
