-- `count_free` meets its contract. The loop's invariant: so far the ones are the numbers marked below 64 for each word passed. Assumes nothing.
use mathlib.Core.Path.{refl}
use borrow.Author.Rules.{rules}
use Rattle.register.specs.Marks.{taken}
use Rattle.register.proofs.questions.Counting.{counts}
use Rattle.register.proofs.questions.count_free.Goals as goal

pub loop-word-init : goal.loop-word-init
unfolding taken
loop-word-init c = refl

pub overflow_cast-marked : goal.overflow_cast-marked
overflow_cast-marked c = search (counts, rules)

pub overflow_add-marked : goal.overflow_add-marked
overflow_add-marked c = search (counts, rules)

pub loop-word-preserved : goal.loop-word-preserved
loop-word-preserved c = search (counts, rules)

pub overflow_sub-result : goal.overflow_sub-result
overflow_sub-result c = search (counts, rules)

pub returns : goal.returns
returns c = search (counts, rules)
