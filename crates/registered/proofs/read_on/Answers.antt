-- `read_on` meets its contract: the sheets that look at the register on a real day, a day that is not real, and the other sheets. Assumes nothing.
use borrow.Author.Rules.{rules}
use Rattle.registered.proofs.Answers.{days}
use Rattle.registered.proofs.read_on.Goals as goal

pub read_numbered-requires : goal.read_numbered-requires
read_numbered-requires c = search (days, rules)

pub returns-then-sh : goal.returns-then-sh
returns-then-sh c = search days

pub returns : goal.returns
returns c = search days
