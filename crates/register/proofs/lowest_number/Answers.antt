-- `lowest_number` meets its contract: what was loaded is searched, or 23. Assumes nothing.
use borrow.Author.Rules.{rules}
use Rattle.register.proofs.Exits.{asked}
use Rattle.register.proofs.lowest_number.Goals as goal

pub lowest_free-requires : goal.lowest_free-requires
lowest_free-requires c = search (asked, rules)

pub returns-then-r : goal.returns-then-r
returns-then-r c = rw c.said.ensures (search asked)

pub returns : goal.returns
returns c = rw c.refused.ensures (search asked)
