-- `free_numbers` meets its contract: what was loaded is counted, or 23. Assumes nothing.
use borrow.Author.Rules.{rules}
use Rattle.register.proofs.Exits.{asked}
use Rattle.register.proofs.free_numbers.Goals as goal

pub count_free-requires : goal.count_free-requires
count_free-requires c = search (asked, rules)

pub returns-then-r : goal.returns-then-r
returns-then-r c = rw c.said.ensures (search asked)

pub returns : goal.returns
returns c = rw c.refused.ensures (search asked)
