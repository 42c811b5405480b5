-- `put_internal`: the digits of both, in the internal order. Assumes nothing.
use borrow.Author.Rules.{rules}
use Rattle.internal.proofs.Exits.{puttings}
use Rattle.internal.proofs.put_internal.Goals as goal

pub returns : goal.returns
returns c = search (puttings, rules)
