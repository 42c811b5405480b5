-- `Turn::moved` meets its contract: a movement goes to the sum of its code. Assumes nothing.
use Rattle.std.proofs.Common.{rules}
use Rattle.turnover.proofs.Sums.{moving}
use Rattle.turnover.proofs.Turn.moved.Goals as goal

pub returns-then-code-plus : goal.returns-then-code-plus
returns-then-code-plus c = search (moving, rules)

pub returns-then-code-less : goal.returns-then-code-less
returns-then-code-less c = search (moving, rules)

pub returns : goal.returns
returns c = search (moving, rules)
