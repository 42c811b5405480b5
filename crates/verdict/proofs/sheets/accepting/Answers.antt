-- `accepting` sets bit after bit: those of the sheets done are set. Assumes nothing.
use borrow.Author.Rules.{rules}
use Rattle.verdict.proofs.sheets.Turns.{marks}
use Rattle.verdict.proofs.sheets.accepting.Goals as goal

pub loop-judged-init : goal.loop-judged-init
loop-judged-init c = search (marks, rules)

pub overflow_add-place : goal.overflow_add-place
overflow_add-place c = search (marks, rules)

pub overflow_add-place-in-Some : goal.overflow_add-place-in-Some
overflow_add-place-in-Some c = search (marks, rules)

pub overflow_add-set : goal.overflow_add-set
overflow_add-set c = search (marks, rules)

pub overflow_mul-bit : goal.overflow_mul-bit
overflow_mul-bit c = search (marks, rules)

pub overflow_add-place-in-Some-2 : goal.overflow_add-place-in-Some-2
overflow_add-place-in-Some-2 c = search (marks, rules)

pub loop-judged-smaller : goal.loop-judged-smaller
loop-judged-smaller c = search (marks, rules)

pub loop-judged-preserved : goal.loop-judged-preserved
loop-judged-preserved c = search (marks, rules)

pub returns : goal.returns
returns c = search marks
