-- `line_of` meets its contract: the loop passes a line each time, and the reader is left at the line of the number asked for, or where the file has
-- ended. Assumes nothing.
use borrow.Author.Rules.{rules}
use Rattle.reader.proofs.Walking.{none_zero, starts-at, passes_on, beyond, ends}
use Rattle.reader.proofs.line_of.Goals as goal

pub returns-then-number-eq0 : goal.returns-then-number-eq0
returns-then-number-eq0 c = search (rules, none_zero)

pub loop-k-init : goal.loop-k-init
loop-k-init c = search (rules, starts-at)

pub returns-then-is_none : goal.returns-then-is_none
returns-then-is_none c = search (rules, beyond)

pub loop-k-preserved : goal.loop-k-preserved
loop-k-preserved c = search (rules, passes_on)

pub returns : goal.returns
returns c = search (rules, ends)
