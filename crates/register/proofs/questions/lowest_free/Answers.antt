-- `lowest_free` meets its contract. The loop's invariant: all numbers of the words passed are marked. Assumes nothing.
use native.Mathlib.Omega.{arith}
use borrow.Author.Rules.{rules}
use Rattle.register.proofs.questions.Lowest.{finds}
use Rattle.register.proofs.questions.lowest_free.Goals as goal

pub loop-i-init : goal.loop-i-init
loop-i-init c = λ j l. absurd (omega arith)

pub overflow_cast-result : goal.overflow_cast-result
overflow_cast-result c = search (finds, rules)

pub overflow_add-result : goal.overflow_add-result
overflow_add-result c = search (finds, rules)

pub returns-then-rest-ne0 : goal.returns-then-rest-ne0
returns-then-rest-ne0 c = search (finds, rules)

pub loop-i-preserved : goal.loop-i-preserved
loop-i-preserved c = search (finds, rules)

pub returns : goal.returns
returns c = search (finds, rules)
