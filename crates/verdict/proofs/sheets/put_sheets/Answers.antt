-- `put_sheets` puts line after line: k of them stand there. Assumes nothing.
use borrow.Author.Rules.{rules}
use Rattle.verdict.proofs.sheets.Turns.{lines}
use Rattle.verdict.proofs.sheets.put_sheets.Goals as goal

pub loop-sh-init : goal.loop-sh-init
loop-sh-init c = search (lines, rules)

pub overflow_add-k : goal.overflow_add-k
overflow_add-k c = search (lines, rules)

pub overflow_add-k-in-Some : goal.overflow_add-k-in-Some
overflow_add-k-in-Some c = search (lines, rules)

pub overflow_add-k-in-Some-2 : goal.overflow_add-k-in-Some-2
overflow_add-k-in-Some-2 c = search (lines, rules)

pub loop-sh-smaller : goal.loop-sh-smaller
loop-sh-smaller c = search (lines, rules)

pub loop-sh-preserved : goal.loop-sh-preserved
loop-sh-preserved c = search (lines, rules)

pub returns : goal.returns
returns c = search lines
